-- What holds of the hands of a thread, and of a connection, holds over two steps.
use Rattle.std.proofs.Common.{◌≡◌, ◌⊎◌, inl, inr, ◌≤◌, ℕ, Option, Some, None, refl, ap, ◌∙◌, arith}
use Rattle.tow_model.specs.declared.account.Role.{Role}
use Rattle.tow_model.specs.declared.account.Role.TheVariants.{Loop, Main, Worker}
use Rattle.tow_model.specs.declared.account.End.{End}
use Rattle.tow_model.specs.declared.account.End.TheVariants.{Done, FolderFault, LinkFault, NoMemory}
use Rattle.tow_folder.specs.Folders.{FolderData}
use Rattle.tow_peer.specs.Links.{LinkData, NeverFall}
use Rattle.tow_host.specs.Logs.{LogData}
use Rattle.tow_walks.specs.Folders.{FolderStays, faults_by}
use Rattle.tow_walks.proofs.Folders.{folder_further, folder_stays}
use Rattle.tow_states.specs.Known.{Setting}
use Rattle.tow_stages.specs.Stages.{Stage}
use Rattle.tow_turns.specs.Logging.{KeepsFaults}
use Rattle.tow_turns.specs.Nexts.{IsOwnEnd, end_in}
use Rattle.tow_turns.proofs.Sends.{tells_still}
use Rattle.tow_turns.proofs.Tellings.{faults_both, faults_kept}
use Rattle.tow_by_turns.specs.Hands.{ClockStays, IsClockIn, IsEquipped, KeepsHands, Serves, log_of}
use Rattle.tow_by_turns.specs.Turns.{EndsSo, IsTurnEnd}
use Rattle.tow_by_turns.specs.declared.hands.Hands.{Hands}

-- ---- clocks

clock_stays : {C : Type 0} (table : C → Option (ℕ → ℕ → ℕ)) (clock : Option C) → ClockStays table clock clock
clock_stays table None = tt
clock_stays table (Some clock) = refl

clock_further : {C : Type 0} (table : C → Option (ℕ → ℕ → ℕ)) (a b c : Option C) → ClockStays table a b → ClockStays table b c
    → ClockStays table a c
clock_further table None None c first second = second
clock_further table None (Some b) c first second = absurd first
clock_further table (Some a) None c first second = absurd first
clock_further table (Some a) (Some b) None first second = absurd second
clock_further table (Some a) (Some b) (Some c) first second = second ∙ first

clock_tells : {C : Type 0} (table : C → Option (ℕ → ℕ → ℕ)) (a b : Option C) (moments : ℕ → ℕ → ℕ) → ClockStays table a b
    → IsClockIn table a moments → IsClockIn table b moments
clock_tells table None None moments stays is = tt
clock_tells table None (Some b) moments stays is = absurd stays
clock_tells table (Some a) None moments stays is = absurd stays
clock_tells table (Some a) (Some b) moments stays is = stays ∙ is

-- ---- hands

module _ {F C G : Type 0} (folders : F → FolderData) (table : C → Option (ℕ → ℕ → ℕ)) (logs : G → LogData) (role : Role) (k : ℕ) where
  pub hands_kept : (hands : Hands F C G) → KeepsHands folders table logs role k hands hands
  hands_kept hands = record {
    site = refl;
    scratch = refl;
    folder = folder_stays folders k hands.folder;
    idle = λ loop. refl;
    clock = clock_stays table hands.clock;
    log = faults_kept k (log_of logs hands.log);
  }

  pub hands_further : (a b c : Hands F C G) → KeepsHands folders table logs role k a b → KeepsHands folders table logs role k b c
      → KeepsHands folders table logs role k a c
  hands_further a b c first second = record {
    site = second.site ∙ first.site;
    scratch = second.scratch ∙ first.scratch;
    folder = folder_further folders k a.folder b.folder c.folder first.folder second.folder;
    idle = λ loop. second.idle loop ∙ first.idle loop;
    clock = clock_further table a.clock b.clock c.clock first.clock second.clock;
    log = faults_both k (log_of logs a.log) (log_of logs b.log) (log_of logs c.log) first.log second.log;
  }

  pub serves_still : (s : Setting) (a b : Hands F C G) → KeepsHands folders table logs role k a b → Serves folders table s a
      → Serves folders table s b
  serves_still s a b keeps serves = record {
    tree = ap (λ x. x.tree) keeps.site ∙ serves.tree;
    files = tells_still folders k a.folder b.folder keeps.folder s.files serves.files;
    moments = clock_tells table a.clock b.clock s.moments keeps.clock serves.moments;
  }

  equipped_over : (folder folder' : Option F) (clock clock' : Option C) (log log' : Option G) → FolderStays folders k folder folder'
      → ClockStays table clock clock' → KeepsFaults k (log_of logs log) (log_of logs log') → (r : Role) → IsEquipped r folder clock log
      → IsEquipped r folder' clock' log'
  equipped_over folder folder' (Some c) (Some c') (Some l) (Some l') stays ticks kept (Loop i) is = tt
  equipped_over folder folder' (Some c) (Some c') (Some l) None stays ticks kept (Loop i) is = absurd kept
  equipped_over folder folder' (Some c) None (Some l) log' stays ticks kept (Loop i) is = absurd ticks
  equipped_over folder folder' (Some c) clock' None log' stays ticks kept (Loop i) is = absurd is
  equipped_over folder folder' None clock' log log' stays ticks kept (Loop i) is = absurd is
  equipped_over (Some f) (Some f') clock clock' log log' stays ticks kept (Worker i) is = tt
  equipped_over (Some f) None clock clock' log log' stays ticks kept (Worker i) is = absurd stays
  equipped_over None folder' clock clock' log log' stays ticks kept (Worker i) is = absurd is
  equipped_over folder folder' clock clock' log log' stays ticks kept Main is = absurd is

  pub equipped_still : (a b : Hands F C G) → KeepsHands folders table logs role k a b → IsEquipped role a.folder a.clock a.log
      → IsEquipped role b.folder b.clock b.log
  equipped_still a b keeps is =
      equipped_over a.folder b.folder a.clock b.clock a.log b.log keeps.folder keeps.clock keeps.log role is

-- a folder's faults for the connection do not fall
pub folder_rises : {F : Type 0} (shows : F → FolderData) (k : ℕ) (a b : Option F) → FolderStays shows k a b
    → faults_by shows a k ≤ faults_by shows b k
folder_rises shows k None None stays = omega arith
folder_rises shows k None (Some b) stays = absurd stays
folder_rises shows k (Some a) None stays = absurd stays
folder_rises shows k (Some a) (Some b) stays = stays.later

-- ---- ends

-- counts that rose in a part of a longer run
own_further : (n m m' n' : ℕ) (end : End) → n ≤ m → m' ≤ n' → IsOwnEnd m m' end → IsOwnEnd n n' end
own_further n m m' n' Done one two is = tt
own_further n m m' n' LinkFault one two is = is
own_further n m m' n' FolderFault one two is = omega (arith, one, two, is)
own_further n m m' n' NoMemory one two is = tt

-- what a stage comes to by two steps
pub ends_further : (n m n' : ℕ) (x y z : Stage) → n ≤ m → m ≤ n'
    → ((end : End) → end_in y ≡ Some end → (end_in x ≡ Some end) ⊎ IsOwnEnd n m end)
    → ((end : End) → end_in z ≡ Some end → (end_in y ≡ Some end) ⊎ IsOwnEnd m n' end)
    → (end : End) → end_in z ≡ Some end → (end_in x ≡ Some end) ⊎ IsOwnEnd n n' end
ends_further n m n' x y z one two first second end is = by_second (second end is) where
  by_first : (end_in x ≡ Some end) ⊎ IsOwnEnd n m end → (end_in x ≡ Some end) ⊎ IsOwnEnd n n' end
  by_first (inl kept) = inl kept
  by_first (inr own) = inr (own_further n n m n' end (omega arith) two own)

  by_second : (end_in y ≡ Some end) ⊎ IsOwnEnd m n' end → (end_in x ≡ Some end) ⊎ IsOwnEnd n n' end
  by_second (inl kept) = by_first (first end kept)
  by_second (inr own) = inr (own_further n m n' n' end one (omega arith) own)

-- ---- links and ends of a turn

pub never_further : (a b c : LinkData) → NeverFall a b → NeverFall b c → NeverFall a c
never_further a b c first second =
    let f1 = first.faults in
    let f2 = second.faults in
    let r1 = first.read_stalls in
    let r2 = second.read_stalls in
    let w1 = first.write_stalls in
    let w2 = second.write_stalls in
    record { faults = omega (arith, f1, f2); read_stalls = omega (arith, r1, r2); write_stalls = omega (arith, w1, w2) }

-- a turn's ends take in those of its steps
own_in_turn : (a b : LinkData) (n n' : ℕ) (end : End) → IsOwnEnd n n' end → IsTurnEnd a b n n' end
own_in_turn a b n n' Done is = tt
own_in_turn a b n n' LinkFault is = absurd is
own_in_turn a b n n' FolderFault is = is
own_in_turn a b n n' NoMemory is = tt

pub turn_ends : (a b : LinkData) (n n' : ℕ) (x y : Stage)
    → ((end : End) → end_in y ≡ Some end → (end_in x ≡ Some end) ⊎ IsOwnEnd n n' end) → EndsSo a b n n' x y
turn_ends a b n n' x y ends end is = by_end (ends end is) where
  by_end : (end_in x ≡ Some end) ⊎ IsOwnEnd n n' end → (end_in x ≡ Some end) ⊎ IsTurnEnd a b n n' end
  by_end (inl kept) = inl kept
  by_end (inr own) = inr (own_in_turn a b n n' end own)

turn_end_further : (a b c d : LinkData) (n m m' n' : ℕ) (end : End) → NeverFall a b → NeverFall c d → n ≤ m → m' ≤ n'
    → IsTurnEnd b c m m' end → IsTurnEnd a d n n' end
turn_end_further a b c d n m m' n' Done before after one two is = tt
turn_end_further a b c d n m m' n' LinkFault before after one two is =
    let f1 = before.faults in let f2 = after.faults in omega (arith, f1, f2, is)
turn_end_further a b c d n m m' n' FolderFault before after one two is = omega (arith, one, two, is)
turn_end_further a b c d n m m' n' NoMemory before after one two is = tt

pub turn_ends_further : (a b c : LinkData) (n m n' : ℕ) (x y z : Stage) → NeverFall a b → NeverFall b c → n ≤ m → m ≤ n'
    → EndsSo a b n m x y → EndsSo b c m n' y z → EndsSo a c n n' x z
turn_ends_further a b c n m n' x y z before after one two first second end is = by_second (second end is) where
  same : (l : LinkData) → NeverFall l l
  same l = record { faults = omega arith; read_stalls = omega arith; write_stalls = omega arith }

  by_first : (end_in x ≡ Some end) ⊎ IsTurnEnd a b n m end → (end_in x ≡ Some end) ⊎ IsTurnEnd a c n n' end
  by_first (inl kept) = inl kept
  by_first (inr own) = inr (turn_end_further a a b c n n m n' end (same a) after (omega arith) two own)

  by_second : (end_in y ≡ Some end) ⊎ IsTurnEnd b c m n' end → (end_in x ≡ Some end) ⊎ IsTurnEnd a c n n' end
  by_second (inl kept) = by_first (first end kept)
  by_second (inr own) = inr (turn_end_further a b c c n m n' n' end before (same c) one (omega arith) own)
