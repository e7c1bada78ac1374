-- A head is taken, and the exchange of its request opens.
use Rattle.std.proofs.Common.{◌≡◌, ◌<◌, ◌≤◌, ◌+◌, ◌-◌, ◌*◌, ◌^◌, ℕ, min, List, [], length, drop, take, Option, refl, sym, ap, subst, ◌∙◌, arith, length-drop}
use Rattle.circular_buffer.specs.Buffer.{Buffer, buffer}
use Rattle.tow_model.specs.declared.account.Call.{Call}
use Rattle.tow_model.specs.declared.account.Role.{Role}
use Rattle.tow_model.specs.declared.request.Request.{Request}
use Rattle.tow_model.specs.declared.statement.Statement.{Statement}
use Rattle.tow_model.specs.Dates.{first_undated}
use Rattle.tow_semantics.specs.Files.{Files}
use Rattle.tow_semantics.specs.Listeners.{bounds_of}
use Rattle.tow_heads.specs.declared.requests.NextRequest.TheVariants as next
use Rattle.tow_exchange.specs.Exchanges.{ExchangeData, opened}
use Rattle.tow_walks.proofs.Sendable.{opened_is_sendable}
use Rattle.tow_progress.specs.Steps.{taken}
use Rattle.tow_states.specs.Known.{Setting}
use Rattle.tow_states.specs.Calling.{most_asks}
use Rattle.tow_states.proofs.Calls.{calls_have_places}
use Rattle.tow_stages.specs.Stages.{Base, reading, walking}
use Rattle.tow_stages.specs.Holding.{Holds}
use Rattle.tow_stages.proofs.Heads.{readings_lead_on}
use Rattle.tow_turns.specs.Nexts.{StepFits}
use Rattle.tow_turns.specs.Safe.{IsOpen, calls_of}
use Rattle.tow_turns.specs.declared.stage.Then.TheVariants as thens
use Rattle.tow_opening.specs.Heads.{LeadsAt}
use Rattle.tow_opening.proofs.Moments.{counts_on, told_for_next}

-- the next request is begun under this number: its head was taken, and its calls have so many places
abbrev pub begun_as : (number : ℕ) (input : Buffer ℕ) (calls : List Call) (room : ℕ) → Base → Base
begun_as number input calls room b =
    record b { begun = number; port = record b.port { input = input }; calls = calls; room = room }

-- a list of calls that has so many places more has those of all calls of a request
pub places_kept : (tree : List Statement) (limits places len room : ℕ) (calls old : List Call) → limits ≡ length (bounds_of tree)
    → places ≡ 2 * (17 * limits) → len ≡ length calls → calls ≡ old → len + places ≤ room → length old + 2 * most_asks tree ≤ room
places_kept tree limits places len room calls old is many whole same enough =
    let count : length calls ≡ length old = ap length same in
    omega (arith, is, many, whole, count, enough)

module _ (b : Base) (q : Request) (used number m room : ℕ) (input : Buffer ℕ) (calls : List Call) (e : ExchangeData)
    (same : calls ≡ b.calls) (took : input ≡ buffer (drop used b.port.input.items) b.port.input.capacity)
    (is : e ≡ opened b.number number q m) where
  dropped : input.items ≡ drop used b.port.input.items
  dropped = ap (λ (x : Buffer ℕ). x.items) took

  pub opens_at : (s : Setting) → number ≡ min (b.begun + 1) (2 ^ 32 - 1) → m ≡ s.moments b.number number
      → length b.calls + 2 * most_asks s.tree ≤ room
      → LeadsAt (next.Request q used) s b (begun_as number input calls room b) (walking e)
  opens_at s counted told places failed o c t h goes_on =
      let begun = h.holds.0.begun in
      let on = counts_on number b.begun c.request counted begun h.holds.0.is.stands.few in
      let new = taken (take used b.port.input.items) input.items c in
      let there = (readings_lead_on failed s o b c t h).opens q used goes_on m (told_for_next s b c m number h.is_at.number begun on told)
      room places input dropped in
      record {
        progress = new;
        tally = t;
        holds = subst (λ (l : List Call). Holds failed s o (begun_as number input l room b) (walking e) new t) (sym same)
            (subst (λ (x : ExchangeData). Holds failed s o (begun_as number input b.calls room b) (walking x) new t) (sym is)
            (subst (λ (j : ℕ). Holds failed s o (begun_as j input b.calls room b) (walking (opened b.number j q m)) new t) (sym on) there));
        same_lines = refl;
      }

  -- its answer can be sent, and its calls have their places
  is_open : (tree : List Statement) (told : Option Files) → m < first_undated → length b.calls + 2 * most_asks tree ≤ room
      → IsOpen tree told (begun_as number input b.calls room b) (opened b.number number q m)
  is_open tree told dated places = record {
    connection = refl;
    dated = dated;
    sendable = opened_is_sendable told b.number number q m;
    asks = most_asks tree;
    places = (calls_have_places tree room (calls_of (begun_as number input b.calls room b))).opens b.number number q m places;
  }

  -- a head of one byte weighs more than the stages of an exchange
  is_nearer : 0 < used → used ≤ length b.port.input.items → 8 * length input.items + 7 < 8 * length b.port.input.items + 2
  is_nearer some within =
      let left : length input.items ≡ length b.port.input.items - used = ap length dropped ∙ length-drop used b.port.input.items in
      omega (arith, left, some, within)

  pub opening_fits : (role : Role) (tree : List Statement) (told : Option Files) (n n' : ℕ) → 0 < used
      → used ≤ length b.port.input.items → b.port.output.items ≡ [] → m < first_undated
      → length b.calls + 2 * most_asks tree ≤ room
      → StepFits role tree told n n' b (begun_as number input calls room b) reading (walking e) thens.On
  opening_fits role tree told n n' some within written dated places = record {
    safe = (
      subst (λ (l : List Call). IsOpen tree told (begun_as number input l room b) e) (sym same)
          (subst (λ (x : ExchangeData). IsOpen tree told (begun_as number input b.calls room b) x) (sym is) (is_open tree told dated places)),
      written,
    );
    next = tt;
    nearer = λ on. is_nearer some within;
    keeps = record { link = refl; ended_so = refl; number = refl };
    waits = λ read. cc;
    links = λ which. tt;
    stays_over = λ over. absurd over;
    ends_so = λ end none. cc;
  }
