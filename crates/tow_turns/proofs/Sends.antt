-- The next piece of an answer is put.
use Rattle.std.proofs.Common.{◌≡◌, ◌≢◌, inl, inr, ◌<◌, ◌≤◌, ℕ, ◌+◌, Bool, true, false, nat_lt, List, [], ◌∷◌, length, drop, if◌then◌else◌, Option, Some, None, refl, sym, ap, subst, ◌∙◌, length-append, arith}
use Rattle.std.proofs.lemmas.Bool.{ltb-true}
use Rattle.std.proofs.lemmas.List.Elements.{All-drop}
use Rattle.circular_buffer.specs.Buffer.{Buffer}
use Rattle.tow_model.specs.declared.account.Role.{Role}
use Rattle.tow_model.specs.declared.account.Role.TheVariants.{Loop, Main, Worker}
use Rattle.tow_model.specs.declared.limits.TheConstants.{PIPE_LEN}
use Rattle.tow_semantics.specs.Files.{Files}
use Rattle.tow_folder.specs.Folders.{FolderData}
use Rattle.tow_sending.specs.Pieces.{GainsFirst, HasParts, Own, Part, Piece, Puts, gone, left_after, room_of, size_of, told_of_file, told_of_put}
use Rattle.tow_sending.specs.declared.sent.Sent.{Sent}
use Rattle.tow_sending.specs.declared.sent.Sent.TheVariants as sent
use Rattle.tow_sending.proofs.Texts.{parts_stay}
use Rattle.tow_replies.specs.Replies.{FitPipe}
use Rattle.tow_walks.specs.Folders.{FolderStays, may_look, told_by}
use Rattle.tow_walks.proofs.Folders.{looks_same}
use Rattle.tow_closing.specs.Closings.{ClosingData}
use Rattle.tow_source.specs.declared.drain.Drain.{Drain}
use Rattle.tow_content.specs.declared.source.ContentSource.{ContentSource}
use Rattle.tow_progress.specs.Steps.{with_piece}
use Rattle.tow_states.specs.Known.{Setting}
use Rattle.tow_stages.specs.Stages.{Base, answering}
use Rattle.tow_stages.specs.Holding.{Holds}
use Rattle.tow_stages.proofs.Answers.{answerings_lead_on}
use Rattle.tow_turns.specs.Folders.{HasFolder, HasPartsIn, IsFolderOf, told_under}
use Rattle.tow_turns.specs.Puttings.{HasPut, IsFileNext, IsFull, KeepsAnswer, with_output}
use Rattle.tow_turns.specs.Roles.{IsLoop}
use Rattle.tow_turns.specs.Contents.{DropsSome}
use Rattle.tow_turns.specs.Safe.{IsPuttable, calls_of}
use Rattle.tow_turns.specs.Steps.{Leads}
use Rattle.tow_turns.specs.declared.stage.Answering.{Answering}
use Rattle.tow_states.specs.Calling.{HasPlacesFor}

gains_capacity : (told : Option Files) (pieces : List Piece) (old new : Buffer ℕ) → GainsFirst told pieces old new
    → new.capacity ≡ old.capacity
gains_capacity told [] old new is = ap (λ (b : Buffer ℕ). b.capacity) is
gains_capacity told (p ∷ rest) old new (text, its, is) = ap (λ (b : Buffer ℕ). b.capacity) is

pub puts_capacity : (told : Option Files) (tells : Sent) (pieces : List Piece) (old new : Buffer ℕ) → Puts told tells pieces old new
    → new.capacity ≡ old.capacity
puts_capacity told sent.Piece pieces old new is = gains_capacity told pieces old new is
puts_capacity told sent.Whole pieces old new is = gains_capacity told pieces old new is
puts_capacity told sent.NeedWorker pieces old new is = ap (λ (b : Buffer ℕ). b.capacity) is
puts_capacity told sent.Full pieces old new is = ap (λ (b : Buffer ℕ). b.capacity) is
puts_capacity told sent.FolderFault pieces old new is = ap (λ (b : Buffer ℕ). b.capacity) is

-- ---- the last piece

not_whole : (full : Bool) → (if full then sent.Full else sent.Piece) ≡ sent.Whole → ⊥
not_whole true is = cc
not_whole false is = cc

is_last_put : (room : ℕ) (pieces : List Piece) → told_of_put room pieces ≡ sent.Whole → drop 1 pieces ≡ []
is_last_put room [] is = refl
is_last_put room (p ∷ []) is = refl
is_last_put room (Own bytes ∷ q ∷ rest) is = absurd (not_whole (nat_lt room (length bytes)) is)
is_last_put room (Part path at len ∷ q ∷ rest) is = cc

is_last_of_file : (room : ℕ) (pieces : List Piece) → told_of_file room pieces ≡ sent.Whole → drop 1 pieces ≡ []
is_last_of_file room [] is = refl
is_last_of_file room (p ∷ []) is = refl
is_last_of_file room (Own bytes ∷ q ∷ rest) is = absurd (not_whole (nat_lt room (length bytes)) is)
is_last_of_file room (Part path at len ∷ q ∷ rest) is = absurd (not_whole (nat_lt room len) is)

-- ---- a folder

pub folder_tells : {F : Type 0} (shows : F → FolderData) (folder : Option F) (f : F) → folder ≡ Some f → (files : Files)
    → IsFolderOf shows folder files → (shows f).told ≡ Some files
folder_tells shows folder f is files = subst (λ x. IsFolderOf shows x files) is

pub folder_has : {F : Type 0} (shows : F → FolderData) (folder : Option F) (f : F) (pieces : List Piece) → folder ≡ Some f
    → HasPartsIn (told_by shows folder) pieces → HasPartsIn (shows f).told pieces
folder_has shows folder f pieces is = subst (λ x. HasPartsIn (told_by shows x) pieces) is

pub parts_left : (told : Option Files) (tells : Sent) (pieces new : List Piece) → new ≡ left_after tells pieces
    → HasPartsIn told pieces → HasPartsIn told new
parts_left told tells pieces new is has =
    λ files tells_files. subst (λ (x : List Piece). HasParts files x) (sym is) (parts_stay files tells pieces (has files tells_files))

-- ---- what it leads to

pub put_leads : (s : Setting) (b : Base) (d : ClosingData) (pieces new : List Piece) (closes : Bool) (drain : Option (Drain ContentSource))
    (tells : Sent) (pipe : Buffer ℕ) → Puts (Some s.files) tells pieces b.port.output pipe → new ≡ left_after tells pieces
    → Leads s b (with_output pipe b) (answering d pieces closes drain) (answering d new closes drain)
put_leads s b d pieces new closes drain tells pipe puts is failed o c t h =
    let p = (answerings_lead_on failed s o b d pieces closes drain c t h).puts tells pipe puts in
    record {
      progress = with_piece p.piece c;
      tally = t;
      holds = subst (λ (x : List Piece). Holds failed s o (with_output pipe b) (answering d x closes drain) (with_piece p.piece c) t) (sym is) p.holds;
      same_lines = refl;
    }

-- ---- what a role is told

pub told_of_loop : (role : Role) → IsLoop role → (room : ℕ) (pieces : List Piece) → told_under role room pieces ≡ told_of_put room pieces
told_of_loop (Loop i) loop room pieces = refl
told_of_loop (Worker i) loop room pieces = absurd loop
told_of_loop Main loop room pieces = absurd loop

pub told_of_other : (role : Role) → (IsLoop role → ⊥) → (room : ℕ) (pieces : List Piece) → told_under role room pieces ≡ told_of_file room pieces
told_of_other (Loop i) other room pieces = absurd (other tt)
told_of_other (Worker i) other room pieces = refl
told_of_other Main other room pieces = refl

put_room_no_fault : (full : Bool) (rest : List Piece) → (if full then sent.Full else gone rest) ≢ sent.FolderFault
put_room_no_fault true rest is = cc
put_room_no_fault false [] is = cc
put_room_no_fault false (p ∷ rest) is = cc

-- no folder is asked by the one who puts no file
pub put_no_fault : (room : ℕ) (pieces : List Piece) → told_of_put room pieces ≢ sent.FolderFault
put_no_fault room [] is = cc
put_no_fault room (Own bytes ∷ rest) is = put_room_no_fault (nat_lt room (length bytes)) rest is
put_no_fault room (Part path at len ∷ rest) is = cc

none_looks : {F : Type 0} (role : Role) (folder : Option F) → folder ≡ None → may_look role folder ≡ false
none_looks (Loop i) folder is = ap (λ x. may_look (Loop i) x) is
none_looks (Worker i) folder is = ap (λ x. may_look (Worker i) x) is
none_looks Main folder is = ap (λ x. may_look Main x) is

-- who has no folder is an I/O loop
pub none_is_loop : {F : Type 0} (role : Role) (folder : Option F) → folder ≡ None → HasFolder role folder → IsLoop role
none_is_loop role folder is (inl loop) = loop
none_is_loop role folder is (inr may) =
    absurd (let wrong : true ≡ false = sym may ∙ none_looks role folder is in cc)

-- ---- what a call leaves in the pipe

gains_grow : (told : Option Files) (pieces : List Piece) (old new : Buffer ℕ) → GainsFirst told pieces old new
    → length old.items ≤ length new.items
gains_grow told [] old new is = let same : length new.items ≡ length old.items = ap (λ (b : Buffer ℕ). length b.items) is in omega (arith, same)
gains_grow told (p ∷ rest) old new (text, its, is) =
    let all : length new.items ≡ length old.items + length text =
    ap (λ (b : Buffer ℕ). length b.items) is ∙ length-append old.items text in
    omega (arith, all)

same_grow : (old new : Buffer ℕ) → new ≡ old → length old.items ≤ length new.items
same_grow old new is = let same : length new.items ≡ length old.items = ap (λ (b : Buffer ℕ). length b.items) is in omega (arith, same)

pub puts_grow : (told : Option Files) (tells : Sent) (pieces : List Piece) (old new : Buffer ℕ) → Puts told tells pieces old new
    → length old.items ≤ length new.items
puts_grow told sent.Piece pieces old new is = gains_grow told pieces old new is
puts_grow told sent.Whole pieces old new is = gains_grow told pieces old new is
puts_grow told sent.NeedWorker pieces old new is = same_grow old new is
puts_grow told sent.Full pieces old new is = same_grow old new is
puts_grow told sent.FolderFault pieces old new is = same_grow old new is

pub full_stays : (told : Option Files) (tells : Sent) (pieces : List Piece) (old new : Buffer ℕ) → Puts told tells pieces old new
    → tells ≡ sent.Full → new ≡ old
full_stays told tells pieces old new puts is = subst (λ (x : Sent). Puts told x pieces old new) is puts

-- ---- pieces one after another

pub fit_left : (tells : Sent) (pieces : List Piece) → FitPipe pieces → FitPipe (left_after tells pieces)
fit_left sent.Piece pieces fit = All-drop (λ (p : Piece). size_of p ≤ PIPE_LEN) 1 pieces fit
fit_left sent.Whole pieces fit = All-drop (λ (p : Piece). size_of p ≤ PIPE_LEN) 1 pieces fit
fit_left sent.NeedWorker pieces fit = fit
fit_left sent.Full pieces fit = fit
fit_left sent.FolderFault pieces fit = fit

piece_of_none : (role : Role) (room : ℕ) → told_under role room [] ≡ sent.Piece → ⊥
piece_of_none (Loop i) room is = cc
piece_of_none (Worker i) room is = cc
piece_of_none Main room is = cc

-- fewer are left if one was put
pub fewer_pieces : (role : Role) (room : ℕ) (pieces : List Piece) → told_under role room pieces ≡ sent.Piece
    → length (drop 1 pieces) < length pieces
fewer_pieces role room [] is = absurd (piece_of_none role room is)
fewer_pieces role room (p ∷ rest) is = omega arith

last_of : (role : Role) (room : ℕ) (pieces : List Piece) → told_under role room pieces ≡ sent.Whole → drop 1 pieces ≡ []
last_of (Loop i) room pieces is = is_last_put room pieces is
last_of (Worker i) room pieces is = is_last_of_file room pieces is
last_of Main room pieces is = is_last_of_file room pieces is

room_asks_none : (full : Bool) (rest : List Piece) → (if full then sent.Full else gone rest) ≡ sent.NeedWorker → ⊥
room_asks_none true rest is = cc
room_asks_none false [] is = cc
room_asks_none false (p ∷ rest) is = cc

file_asks_none : (room : ℕ) (pieces : List Piece) → told_of_file room pieces ≡ sent.NeedWorker → ⊥
file_asks_none room [] is = cc
file_asks_none room (p ∷ rest) is = room_asks_none (nat_lt room (size_of p)) rest is

put_asks : (room : ℕ) (pieces : List Piece) → told_of_put room pieces ≡ sent.NeedWorker → IsFileNext pieces
put_asks room [] is = absurd (cc)
put_asks room (Own bytes ∷ rest) is = absurd (room_asks_none (nat_lt room (length bytes)) rest is)
put_asks room (Part path at len ∷ rest) is = tt

asks_worker : (role : Role) (room : ℕ) (pieces : List Piece) → told_under role room pieces ≡ sent.NeedWorker → IsLoop role × IsFileNext pieces
asks_worker (Loop i) room pieces is = (tt, put_asks room pieces is)
asks_worker (Worker i) room pieces is = absurd (file_asks_none room pieces is)
asks_worker Main room pieces is = absurd (file_asks_none room pieces is)

no_room : (short : Bool) (rest : List Piece) → (if short then sent.Full else gone rest) ≡ sent.Full → short ≡ true
no_room true rest is = refl
no_room false [] is = absurd (cc)
no_room false (p ∷ rest) is = absurd (cc)

file_full : (pieces : List Piece) (pipe : Buffer ℕ) → told_of_file (room_of pipe) pieces ≡ sent.Full → IsFull pieces pipe
file_full [] pipe is = absurd (cc)
file_full (p ∷ rest) pipe is = ltb-true (room_of pipe) (size_of p) (no_room (nat_lt (room_of pipe) (size_of p)) rest is)

put_full : (pieces : List Piece) (pipe : Buffer ℕ) → told_of_put (room_of pipe) pieces ≡ sent.Full → IsFull pieces pipe
put_full [] pipe is = absurd (cc)
put_full (Own bytes ∷ rest) pipe is =
    ltb-true (room_of pipe) (length bytes) (no_room (nat_lt (room_of pipe) (length bytes)) rest is)
put_full (Part path at len ∷ rest) pipe is = absurd (cc)

is_full : (role : Role) (pieces : List Piece) (pipe : Buffer ℕ) → told_under role (room_of pipe) pieces ≡ sent.Full → IsFull pieces pipe
is_full (Loop i) pieces pipe is = put_full pieces pipe is
is_full (Worker i) pieces pipe is = file_full pieces pipe is
is_full Main pieces pipe is = file_full pieces pipe is

-- No more is put after this call.
pub has_put : (role : Role) (tells : Sent) (pieces new : List Piece) (old pipe : Buffer ℕ)
    → (tells ≢ sent.FolderFault → tells ≡ told_under role (room_of old) pieces) → new ≡ left_after tells pieces
    → (tells ≡ sent.Full → pipe ≡ old) → (tells ≡ sent.Piece → IsLoop role × (0 < length pipe.items)) → HasPut role tells new pipe
has_put role sent.Piece pieces new old pipe told left full stops = stops refl
has_put role sent.Whole pieces new old pipe told left full stops =
    left ∙ last_of role (room_of old) pieces (sym (told (λ is. cc)))
has_put role sent.NeedWorker pieces new old pipe told left full stops =
    let asks : IsLoop role × IsFileNext pieces = asks_worker role (room_of old) pieces (sym (told (λ is. cc))) in
    (asks.0, subst IsFileNext (sym left) asks.1)
has_put role sent.Full pieces new old pipe told left full stops =
    let none : IsFull pieces old = is_full role pieces old (sym (told (λ is. cc))) in
    subst (λ (l : List Piece). IsFull l pipe) (sym left) (subst (λ (x : Buffer ℕ). IsFull pieces x) (sym (full refl)) none)
has_put role sent.FolderFault pieces new old pipe told left full stops = tt

-- what is left can be put still
pub puttable_still : (told : Option Files) (b b' : Base) (old new : Answering) (tells : Sent) (pipe : Buffer ℕ) → b' ≡ with_output pipe b
    → KeepsAnswer old new → new.sending ≡ left_after tells old.sending → HasPartsIn told new.sending
    → IsPuttable told b old.closing old.sending old.drain → IsPuttable told b' new.closing new.sending new.drain
puttable_still told b b' old new tells pipe base keeps left parts is = record {
  parts = parts;
  fit = subst FitPipe (sym left) (fit_left tells old.sending is.fit);
  drops = subst DropsSome (sym keeps.drain) is.drops;
  places = subst (λ (d : ClosingData). HasPlacesFor b'.room (calls_of b') d.completed.left) (sym keeps.closing)
      (subst (λ (x : Base). HasPlacesFor x.room (calls_of x) old.closing.completed.left) (sym base) is.places);
}

-- ---- a folder that was asked

module _ {F : Type 0} (shows : F → FolderData) (k : ℕ) where
  pub tells_still : (a b : Option F) → FolderStays shows k a b → (files : Files) → IsFolderOf shows a files → IsFolderOf shows b files
  tells_still None None stays files is = tt
  tells_still None (Some b) stays files is = absurd stays
  tells_still (Some a) None stays files is = absurd stays
  tells_still (Some a) (Some b) stays files is = stays.told ∙ is

  pub has_still : (role : Role) (a b : Option F) → FolderStays shows k a b → HasFolder role a → HasFolder role b
  has_still role a b stays (inl loop) = inl loop
  has_still role a b stays (inr may) = inr (looks_same shows k role a b stays ∙ may)
