-- The folder of a walk stays what it is.
use Rattle.std.proofs.Common.{◌≡◌, ℕ, ◌∙◌, true, false, Option, Some, None, refl, arith, subst}
use Rattle.tow_model.specs.declared.account.Role.{Role}
use Rattle.tow_model.specs.declared.account.Role.TheVariants.{Main, Loop, Worker}
use Rattle.tow_link.specs.Data.{Rose}
use Rattle.tow_semantics.specs.Plans.{Mark}
use Rattle.tow_exchange.specs.Exchanges.{ExchangeData}
use Rattle.tow_advance.specs.Needs.{StaysForWorker}
use Rattle.tow_folder.specs.Folders.{FolderData}
use Rattle.tow_walks.specs.Folders.{FolderStays, LeavesFolder, faults_by, may_look, told_by}

leaves_same : (k : ℕ) (d : FolderData) → LeavesFolder k d d
leaves_same k d = record { told = refl; later = omega arith; others = record { own = λ other differs. refl; shared = omega arith } }

leaves_further : (k : ℕ) (a b c : FolderData) → LeavesFolder k a b → LeavesFolder k b c → LeavesFolder k a c
leaves_further k a b c first second =
    let l1 = first.later in
    let l2 = second.later in
    let s1 = first.others.shared in
    let s2 = second.others.shared in
    record {
      told = second.told ∙ first.told;
      later = omega (arith, l1, l2);
      others = record {
        own = λ other differs. second.others.own other differs ∙ first.others.own other differs;
        shared = omega (arith, s1, s2);
      };
    }

module _ {F : Type 0} (shows : F → FolderData) (k : ℕ) where
  pub folder_stays : (folder : Option F) → FolderStays shows k folder folder
  folder_stays None = tt
  folder_stays (Some folder) = leaves_same k (shows folder)

  pub folder_further : (a b c : Option F) → FolderStays shows k a b → FolderStays shows k b c → FolderStays shows k a c
  folder_further None None None first second = tt
  folder_further None None (Some c) first second = absurd second
  folder_further None (Some b) c first second = absurd first
  folder_further (Some a) None c first second = absurd first
  folder_further (Some a) (Some b) None first second = absurd second
  folder_further (Some a) (Some b) (Some c) first second = leaves_further k (shows a) (shows b) (shows c) first second

  pub tells_same : (a b : Option F) → FolderStays shows k a b → told_by shows b ≡ told_by shows a
  tells_same None None stays = refl
  tells_same None (Some b) stays = absurd stays
  tells_same (Some a) None stays = absurd stays
  tells_same (Some a) (Some b) stays = stays.told

  pub looks_same : (role : Role) (a b : Option F) → FolderStays shows k a b → may_look role b ≡ may_look role a
  looks_same role None None stays = refl
  looks_same role None (Some b) stays = absurd stays
  looks_same role (Some a) None stays = absurd stays
  looks_same Main (Some a) (Some b) stays = refl
  looks_same (Loop i) (Some a) (Some b) stays = refl
  looks_same (Worker i) (Some a) (Some b) stays = refl

  -- a fault that rose after others
  pub rose_later : (a b c : Option F) → FolderStays shows k a b → Rose (faults_by shows b k) (faults_by shows c k) →
      Rose (faults_by shows a k) (faults_by shows c k)
  rose_later None None c stays rose = rose
  rose_later None (Some b) c stays rose = absurd stays
  rose_later (Some a) None c stays rose = absurd stays
  rose_later (Some a) (Some b) c stays rose =
      let later = stays.later in
      omega (arith, later, rose)

-- what is no loop's may go on
pub stays_by_worker : {F : Type 0} (role : Role) (folder : Option F) (mark : Mark) (old new : ExchangeData) → may_look role folder ≡ true →
    StaysForWorker role mark old new
stays_by_worker Main folder mark old new may = tt
stays_by_worker (Loop i) folder mark old new may = absurd cc
stays_by_worker (Worker i) folder mark old new may = tt

-- what may not look has not gone on before
pub stays_on : {F : Type 0} (role : Role) (folder : Option F) (old e new : ExchangeData) → (may_look role folder ≡ false → e ≡ old) →
    StaysForWorker role e.stand.mark e new → StaysForWorker role old.stand.mark old new
stays_on Main folder old e new same stays = tt
stays_on (Loop i) folder old e new same stays =
    subst (λ (x : ExchangeData). StaysForWorker (Loop i) x.stand.mark x new) (same refl) stays
stays_on (Worker i) folder old e new same stays = tt
