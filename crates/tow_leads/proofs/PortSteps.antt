-- Each call of a port moves bytes as a connection does.
use Rattle.std.proofs.Common.{◌≡◌, ℕ, Bool, true, List, [], ◌∷◌, ◌++◌, take, drop, Option, Some, None, refl, sym, ap, subst, ◌∙◌, append-nil}
use Rattle.std.proofs.lemmas.List.{take-append-drop}
use Rattle.std.specs.Io.KnownBytes.{append_known}
use Rattle.circular_buffer.specs.Buffer.{Buffer}
use Rattle.tow_link.specs.Data.{Told}
use Rattle.tow_link.specs.Calls.{Moves, IsDrained}
use Rattle.tow_peer.specs.Links.{LinkData, Stays}
use Rattle.tow_peer.specs.declared.answers.LinkRead.{LinkRead}
use Rattle.tow_peer.specs.declared.answers.LinkRead.TheVariants as reads
use Rattle.tow_peer.specs.declared.answers.LinkWrite.{LinkWrite}
use Rattle.tow_peer.specs.declared.answers.LinkWrite.TheVariants as writes
use Rattle.tow_port.specs.Ports.{Brings, Fills, Sends, Takes}
use Rattle.tow_progress.specs.Progress.{Progress}
use Rattle.tow_leads.specs.Ports.{IsPortOf, IsRead, IsWritten, PortData, PortsLeadOn, as_read, as_written}

-- where nothing is left, nothing is left behind some bytes
none_behind : (xs ys : List ℕ) → [] ≡ xs ++ ys → ys ≡ []
none_behind [] ys is = sym is
none_behind (x ∷ xs) ys is = absurd (cc)

module _ (p : PortData) (c : Progress) (is : IsPortOf p c) where
  -- the counts alone of the link changed, and no byte was moved
  none_read : (link : LinkData) (input : Buffer ℕ) (ended : Bool) → Stays p.link link → input ≡ p.input → (ended ≡ true → c.left ≡ [])
      → IsRead (as_read link input ended p) c
  none_read link input ended stays same over = record {
    bytes = [];
    left = c.left;
    split = refl;
    port = record {
      peer = stays.peer ∙ is.peer;
      told = is.told;
      tells = stays.input ∙ is.tells;
      left = is.left;
      piped_in = ap (λ (b : Buffer ℕ). b.items) same ∙ is.piped_in ∙ sym (append-nil c.piped_in);
      over = over;
      piped_out = is.piped_out;
      written = stays.written ∙ is.written;
    };
  }

  dry : IsDrained p.link.input → c.left ≡ []
  dry drained = sym is.left ∙ subst IsDrained is.tells drained

  some_read : (count : ℕ) (link : LinkData) (input : Buffer ℕ) (ended : Bool) → Brings count p.link link p.input input → ended ≡ p.ended
      → IsRead (as_read link input ended p) c
  some_read count link input ended brings same = from link.input refl
    where
      moved : Moves (Some is.told) link.input brings.bytes
      moved = subst (λ (o : Option Told). Moves o link.input brings.bytes) is.tells brings.moved

      from : (o : Option Told) → link.input ≡ o → IsRead (as_read link input ended p) c
      from None none = absurd (subst (λ (o : Option Told). Moves (Some is.told) o brings.bytes) none moved)
      from (Some told) some =
          let m : Moves (Some is.told) (Some told) brings.bytes =
          subst (λ (o : Option Told). Moves (Some is.told) o brings.bytes) some moved in
          let split : c.left ≡ brings.bytes ++ told.left = sym is.left ∙ m.0 in
          record {
            bytes = brings.bytes;
            left = told.left;
            split = split;
            port = record {
              peer = brings.peer ∙ is.peer;
              told = told;
              tells = some;
              left = refl;
              piped_in = ap (λ (b : Buffer ℕ). b.items) brings.gained ∙ ap (λ (l : List ℕ). l ++ brings.bytes) is.piped_in;
              over = λ end. none_behind brings.bytes told.left (sym (is.over (sym same ∙ end)) ∙ split);
              piped_out = is.piped_out;
              written = brings.written ∙ is.written;
            };
          }

  read_on : (answer : LinkRead) (link : LinkData) (input : Buffer ℕ) (ended : Bool)
      → Fills answer p.link link p.input input p.ended ended → IsRead (as_read link input ended p) c
  read_on (reads.Got count) link input ended fills = some_read count link input ended fills.0 fills.1
  read_on reads.NotYet link input ended fills = none_read link input ended fills.0 fills.1 (λ end. is.over (sym fills.2 ∙ end))
  read_on reads.End link input ended fills = none_read link input ended fills.0 fills.2 (λ end. dry fills.1)
  read_on reads.Failed link input ended fills = none_read link input ended fills.0 fills.1 (λ end. is.over (sym fills.2 ∙ end))

  -- nothing was taken
  none_written : (link : LinkData) (output : Buffer ℕ) → Stays p.link link → output ≡ p.output → IsWritten (as_written link output p) c
  none_written link output stays same = record {
    bytes = [];
    piped = c.piped_out;
    split = refl;
    port = record {
      peer = stays.peer ∙ is.peer;
      told = is.told;
      tells = stays.input ∙ is.tells;
      left = is.left;
      piped_in = is.piped_in;
      over = is.over;
      piped_out = ap (λ (b : Buffer ℕ). b.items) same ∙ is.piped_out;
      written = stays.written ∙ is.written ∙ ap (λ (l : List ℕ). Some l) (sym (append-nil c.written));
    };
  }

  some_written : (count : ℕ) (link : LinkData) (output : Buffer ℕ) → Takes count p.link link p.output output
      → IsWritten (as_written link output p) c
  some_written count link output takes =
      let out = is.piped_out in
      record {
        bytes = take count c.piped_out;
        piped = drop count c.piped_out;
        split = sym (take-append-drop count c.piped_out);
        port = record {
          peer = takes.peer ∙ is.peer;
          told = is.told;
          tells = takes.input ∙ is.tells;
          left = is.left;
          piped_in = is.piped_in;
          over = is.over;
          piped_out = ap (λ (b : Buffer ℕ). b.items) takes.left ∙ ap (drop count) out;
          written = takes.written ∙ ap (λ (o : Option (List ℕ)). append_known o (take count p.output.items)) is.written
              ∙ ap (λ (l : List ℕ). Some (c.written ++ take count l)) out;
        };
      }

  write_on : (answer : LinkWrite) (link : LinkData) (output : Buffer ℕ) → Sends answer p.link link p.output output
      → IsWritten (as_written link output p) c
  write_on (writes.Took count) link output sends = some_written count link output sends
  write_on writes.NotYet link output sends = none_written link output sends.0 sends.1
  write_on writes.Failed link output sends = none_written link output sends.0 sends.1

pub ports_lead_on : PortsLeadOn
ports_lead_on p c is = record {
  fills = read_on p c is;
  sends = write_on p c is;
  puts = λ piece. record {
    peer = is.peer;
    told = is.told;
    tells = is.tells;
    left = is.left;
    piped_in = is.piped_in;
    over = is.over;
    piped_out = ap (λ (l : List ℕ). l ++ piece) is.piped_out;
    written = is.written;
  };
  takes = λ bytes input split. record {
    peer = is.peer;
    told = is.told;
    tells = is.tells;
    left = is.left;
    piped_in = refl;
    over = is.over;
    piped_out = is.piped_out;
    written = is.written;
  };
}
