-- The answer of an exchange can be sent.
use Rattle.std.proofs.Common.{◌≡◌, ◌≢◌, ◌⊎◌, inl, inr, ℕ, zero, suc, ◌≤◌, Bool, true, false, not, List, [], ◌∷◌, ◌++◌, codes, cond, find, length, if◌then◌else◌, Option, Some, None, IfSome, option_map, refl, sym, ap, subst, ◌∙◌, arith}
use Rattle.std.specs.Option.{unwrap_or, option_or}
use Rattle.std.specs.Str.{bytes_eq}
use Rattle.std.proofs.lemmas.Slice.Eq.{bytes_eq-Decides}
use Rattle.tow_model.specs.declared.record.Record.{Record}
use Rattle.tow_model.specs.declared.record.Choice.{Choice}
use Rattle.tow_model.specs.declared.record.Choice.TheVariants as choice
use Rattle.tow_model.specs.declared.request.Request.{Request}
use Rattle.tow_model.specs.declared.content.Content.TheVariants.{Whole, Bad, TooLong}
use Rattle.tow_model.specs.declared.account.Verdict.TheVariants.{Admitted, Refused}
use Rattle.tow_model.specs.declared.statement.Statement.{Statement}
use Rattle.tow_model.specs.Texts.{Text, ends_in, is_among}
use Rattle.tow_semantics.specs.Files.{File, Files, file_at, is_directory, names_in}
use Rattle.tow_semantics.specs.Sites.{file_bytes}
use Rattle.tow_semantics.specs.Pages.{Found, Serve, Redirect, Listing, Forbidden, NotModified, NotFound, BadMethod, directory_location, directory_page, file_page, found_page, is_servable, is_unchanged, listing_of, page_for, served, welcome_file, welcome_names}
use Rattle.tow_semantics.specs.Plans.{Stand}
use Rattle.tow_exchange.specs.Exchanges.{ExchangeData, page_given}
use Rattle.tow_exchange.specs.declared.phase.Phase.TheVariants.{AwaitsPage, AwaitsVerdict, Stopped}
use Rattle.tow_program.specs.Programs.{program_of}
use Rattle.tow_advance.specs.Moves.{IsUnchosen}
use Rattle.tow_course.specs.Course.{Advances}
use Rattle.tow_page.specs.Answers.{CanBeGiven}
use Rattle.tow_sending.specs.Pieces.{HasFile, IsAskable}
use Rattle.tow_walks.specs.Walks.{IsFoundIn, Looks, WalksBy}
use Rattle.tow_walks.specs.Sendable.{ContentsStaySendable, IsSendable, OpenedIsSendable, VerdictsStaySendable, WalksStaySendable}
use Rattle.tow_walks.proofs.Choosing.{IsNoFile, has_stopped, stopped_already, stops_without}

-- WHAT IS FOUND IS THERE

abbrev IsThere : Files → Found → Type 0
IsThere files (Serve path len second) = len ≤ length (file_bytes files path)
IsThere files other = Unit {0}

find_is : {X : Type 0} (p : X → Bool) (xs : List X) (x : X) → find p xs ≡ Some x → p x ≡ true
find_is p [] x is = absurd cc
find_is p (y ∷ ys) x is = by (find_is p ys x) (p y) refl is
  where
    by : (find p ys ≡ Some x → p x ≡ true) → (b : Bool) → p y ≡ b → cond b (Some y) (find p ys) ≡ Some x → p x ≡ true
    by later true holds found = let e : y ≡ x = cc in subst (λ z. p z ≡ true) e holds
    by later false holds found = later found

file_has : (files : Files) (path : Text) (f : File) → file_at files path ≡ Some f → length f.bytes ≤ length (file_bytes files f.path)
file_has files path f is =
    let same : f.path ≡ path = (bytes_eq-Decides f.path path).0 (find_is (λ g. bytes_eq g.path path) files f is) in
    let bytes : file_bytes files f.path ≡ f.bytes =
    ap (file_bytes files) same ∙ ap (λ (o : Option File). unwrap_or (option_map (λ g. g.bytes) o) []) is in
    let len : length (file_bytes files f.path) ≡ length f.bytes = ap length bytes in
    omega (arith, len)

either_there : (files : Files) (b : Bool) (x y : Found) → IsThere files x → IsThere files y → IsThere files (if b then x else y)
either_there files true x y first second = first
either_there files false x y first second = second

module _ (files : Files) (q : Request) (x : Record) where
  served_there : (path : Text) (f : File) → file_at files path ≡ Some f → IsThere files (served q x f)
  served_there path f is = either_there files (is_unchanged q x f.second) (NotModified f.second) (Serve f.path (length f.bytes) f.second) tt (file_has files path f is)

  -- a file that stands somewhere, or something else
  option_there : (o : Option File) (other : Found) → ((f : File) → o ≡ Some f → (path : Text) × (file_at files path ≡ Some f)) →
      IsThere files other → IsThere files (unwrap_or (option_map (served q x) o) other)
  option_there None other somewhere there = there
  option_there (Some f) other somewhere there = let at = somewhere f refl in served_there at.0 f at.1

  welcome_at : (directory : Text) (names : List Text) (f : File) → welcome_file files directory names ≡ Some f →
      (path : Text) × (file_at files path ≡ Some f)
  welcome_at directory [] f is = absurd cc
  welcome_at directory (n ∷ names) f is = by (welcome_at directory names f) (file_at files (directory ++ n)) refl is
    where
      by : (welcome_file files directory names ≡ Some f → (path : Text) × (file_at files path ≡ Some f)) →
          (o : Option File) → file_at files (directory ++ n) ≡ o → option_or o (welcome_file files directory names) ≡ Some f →
          (path : Text) × (file_at files path ≡ Some f)
      by later (Some g) at found = (directory ++ n, at ∙ found)
      by later None at found = later found

  directory_there : (listing : Bool) (directory : Text) → IsThere files (directory_page files listing q x directory)
  directory_there listing directory =
      let names = Listing (listing_of x.path (names_in files directory)) in
      let other : Found = if listing then names else Forbidden in
      let welcome = welcome_file files directory welcome_names in
      either_there files (is_directory files directory) (unwrap_or (option_map (served q x) welcome) other) NotFound
      (option_there welcome other (welcome_at directory welcome_names) (either_there files listing names Forbidden tt tt))
      tt

  file_there : (path : Text) → IsThere files (file_page files q x path)
  file_there path =
      let below = is_directory files (path ++ codes "/") in
      let address = Redirect (directory_location x) in
      let other : Found = if below then address else NotFound in
      option_there (file_at files path) other (λ f is. (path, is)) (either_there files below address NotFound tt tt)

  found_there : (location : Text) (listing : Bool) → IsThere files (found_page files location listing q x)
  found_there location listing =
      let path = location ++ x.path in
      let directory = directory_page files listing q x path in
      let file = file_page files q x path in
      let ends = ends_in (codes "/") path in
      let servable = is_servable path in
      let there : Found = if ends then directory else file in
      let known = is_among q.method (codes "GET" ∷ codes "HEAD" ∷ []) in
      either_there files (not known) BadMethod (if not servable then NotFound else there) tt
      (either_there files (not servable) NotFound there tt
      (either_there files ends directory file (directory_there listing path) (file_there path)))

-- WHAT AN EXCHANGE HAS CHOSEN

no_file_asked : (c : Choice) → IsNoFile c → IsAskable c
no_file_asked choice.Undecided none = tt
no_file_asked choice.Empty none = tt
no_file_asked (choice.Whole bytes) none = tt
no_file_asked (choice.File path len) none = absurd none
no_file_asked (choice.Listing bytes) none = tt

no_file_missing : (files : Files) (c : Choice) → IsNoFile c → HasFile files c
no_file_missing files choice.Undecided none = tt
no_file_missing files choice.Empty none = tt
no_file_missing files (choice.Whole bytes) none = tt
no_file_missing files (choice.File path len) none = absurd none
no_file_missing files (choice.Listing bytes) none = tt

where_told : (told : Option Files) (P : Files → Type 0) → ((files : Files) → told ≡ Some files → P files) → IfSome told P
where_told None P holds = tt
where_told (Some files) P holds = holds files refl

plain : (told : Option Files) (e : ExchangeData) → IsUnchosen e → IsNoFile e.stand.state.choice → IsSendable told e
plain told e unchosen none = record {
  unchosen = unchosen;
  askable = no_file_asked e.stand.state.choice none;
  there = where_told told (λ files. HasFile files e.stand.state.choice) (λ files is. no_file_missing files e.stand.state.choice none);
}

-- ---- a look

module _ (told : Option Files) (e : ExchangeData) (location : Text) (listing : Bool) (is : e.phase ≡ AwaitsPage location listing)
    (sends : IsSendable told e) where
  live : e.phase ≢ Stopped
  live stopped = let wrong : AwaitsPage location listing ≡ Stopped = sym is ∙ stopped in absurd cc

  file_told : (path : Text) (len second : ℕ) → IsFoundIn told location listing e (Serve path len second) → (files : Files) → told ≡ Some files →
      len ≤ length (file_bytes files path)
  file_told path len second found files tells =
      let same : Serve path len second ≡ found_page files location listing e.request e.stand.state =
      subst (λ (o : Option Files). IsFoundIn o location listing e (Serve path len second)) tells found in
      subst (IsThere files) (sym same) (found_there files e.request e.stand.state location listing)

  given_sends : (found : Found) → IsFoundIn told location listing e found → CanBeGiven (page_for found) → IsSendable told (page_given found e)
  given_sends (Serve path len second) found can = record {
    unchosen = λ running. absurd (running refl);
    askable = can;
    there = where_told told (λ files. HasFile files (choice.File path len)) (file_told path len second found);
  }
  given_sends (Redirect to) found can = plain told (page_given (Redirect to) e) (λ running. absurd (running refl)) tt
  given_sends (Listing bytes) found can = plain told (page_given (Listing bytes) e) (λ running. absurd (running refl)) tt
  given_sends Forbidden found can = plain told (page_given Forbidden e) (λ running. absurd (running refl)) tt
  given_sends (NotModified second) found can = plain told (page_given (NotModified second) e) (λ running. absurd (running refl)) tt
  given_sends NotFound found can = record { unchosen = λ running. sends.unchosen live; askable = sends.askable; there = sends.there }
  given_sends BadMethod found can = plain told (page_given BadMethod e) (λ running. absurd (running refl)) tt

look_sends : (told : Option Files) (old new : ExchangeData) → Looks told old new → IsSendable told old → IsSendable told new
look_sends told old new looked sends =
    subst (λ (x : ExchangeData). IsSendable told x) (sym looked.given)
    (given_sends told old looked.location looked.listing looked.waits sends looked.found looked.is_found looked.can)

-- ---- a call of `advance`

module _ (tree : List Statement) (told : Option Files) (old new : ExchangeData) (goes : Advances tree old new) (sends : IsSendable told old) where
  unchosen : IsUnchosen new
  unchosen = goes.unchosen sends.unchosen

  no_file_yet : (e : ExchangeData) → IsUnchosen e → e.phase ≢ Stopped → IsNoFile e.stand.state.choice
  no_file_yet e none live = subst IsNoFile (sym (none live)) tt

  from_stopped : new.stand ≡ old.stand → IsSendable told new
  from_stopped same = record {
    unchosen = unchosen;
    askable = subst (λ (s : Stand). IsAskable s.state.choice) (sym same) sends.askable;
    there = subst (λ (s : Stand). IfSome told (λ files. HasFile files s.state.choice)) (sym same) sends.there;
  }

  by_phases : (old.phase ≡ Stopped) ⊎ (old.phase ≢ Stopped) → (new.phase ≡ Stopped) ⊎ (new.phase ≢ Stopped) → IsSendable told new
  by_phases first (inr live) = plain told new unchosen (no_file_yet new unchosen live)
  by_phases (inl was) (inl is) = from_stopped (stopped_already (program_of tree) old new goes.plan is was)
  by_phases (inr live) (inl is) =
      plain told new unchosen (stops_without (program_of tree) old new goes.plan is (no_file_yet old sends.unchosen live))

  step_sends : IsSendable told new
  step_sends = by_phases (has_stopped old.phase) (has_stopped new.phase)

walk_sends : (tree : List Statement) (told : Option Files) (looks : ℕ) (old new : ExchangeData) → WalksBy looks tree told old new →
    IsSendable told old → IsSendable told new
walk_sends tree told zero old new goes sends = step_sends tree told old new goes sends
walk_sends tree told (suc looks) old new (seen, given, walked, looked, goes) sends =
    step_sends tree told given new goes (look_sends told seen given looked (walk_sends tree told looks old seen walked sends))

-- ---- laws

pub opened_is_sendable : OpenedIsSendable
opened_is_sendable told k j q m = plain told _ (λ running. refl) tt

pub walks_stay_sendable : WalksStaySendable
walks_stay_sendable tree told old new walked sends = walk_sends tree told walked.looks old new walked.steps sends

pub verdicts_stay_sendable : VerdictsStaySendable
verdicts_stay_sendable told e limit Admitted is sends =
    let live : e.phase ≢ Stopped = λ stopped. absurd (let wrong : AwaitsVerdict limit ≡ Stopped = sym is ∙ stopped in cc) in
    record { unchosen = λ running. sends.unchosen live; askable = sends.askable; there = sends.there }
verdicts_stay_sendable told e limit Refused is sends = plain told _ (λ running. absurd (running refl)) tt

pub contents_stay_sendable : ContentsStaySendable
contents_stay_sendable told e (Whole bytes) sends = plain told _ (λ running. absurd (running refl)) tt
contents_stay_sendable told e Bad sends = plain told _ (λ running. absurd (running refl)) tt
contents_stay_sendable told e TooLong sends = plain told _ (λ running. absurd (running refl)) tt
