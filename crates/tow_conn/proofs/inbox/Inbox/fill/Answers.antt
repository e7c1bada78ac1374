use Rattle.std.proofs.Common.{◌≡◌, ◌<◌, ◌+◌, ◌-◌, ◌++◌, ◌∙◌, sym, ap, subst, take, drop, List, ℕ, length, arith}
use Rattle.std.proofs.lemmas.List.{length-take-le, with_items_is}
use borrow.Rule.Slice.PartMut.{post_of}
use Rattle.tow_conn.specs.declared.inbox.Inbox.TheInside.{Inside}
use Rattle.tow_conn.proofs.Filling.{Stands, stands_settled, gained, stays, whole_length}
use Rattle.tow_conn.proofs.inbox.Inbox.fill.Goals.{then-self-eq-ROOM, else-self-eq-ROOM}
use Rattle.tow_conn.proofs.inbox.Inbox.fill.Goals as goal

abbrev Holds : List ℕ → Inside → Type 0
Holds bytes s = Stands bytes s.from s.to s.store.items

pub returns-in-Got-clause-fills : goal.returns-in-Got-clause-fills
returns-in-Got-clause-fills g c =
    let s = c.if-self-eq-ROOM.self-inside in
    let before : Holds c.args.self.now c.self.inside = (c.self.invariant.0, c.self.invariant.1, c.self.invariant.2, c.self.view_is) in
    let stands : Holds c.args.self.now s =
    elim c.if-self-eq-ROOM.branch [
      | then-self-eq-ROOM w ↦ subst (Holds c.args.self.now) (sym w.self-inside-is) (stands_settled _ _ _ _ _ before w.copy_within.ensures.items)
      | else-self-eq-ROOM w ↦ subst (Holds c.args.self.now) (sym w.self-inside-is) before
    ] in
    let rest = post_of s.to (65536 - s.to) c.deref_mut.result.now in
    let store : List ℕ = take s.to c.deref_mut.result.now ++ (c.read.new.to ++ rest) in
    let whole : length store ≡ s.store.len = whole_length s.to c.deref_mut.result.now c.read.new.to s.store.items s.store.len (omega (arith, stands.1, stands.2, ap length c.deref_mut.ensures.value)) c.read.auto.to c.deref_mut.ensures.len in
    record {
      gained = take c.in-Got.count c.read.new.to;
      some = subst (λ (n : ℕ). 0 < n) (sym (length-take-le c.in-Got.count c.read.new.to c.in-Got.ensures.fits.1)) c.in-Got.ensures.fits.0;
      moved = c.in-Got.ensures.bytes;
      joined = ap (λ (l : List ℕ). take (s.to + c.in-Got.count - s.from) (drop s.from l)) (with_items_is s.store store whole)
          ∙ gained _ s.from s.to c.in-Got.count _ c.deref_mut.result.now c.read.new.to rest stands c.deref_mut.ensures.value c.in-Got.ensures.fits.1;
    }

pub returns-in-End-clause-fills : goal.returns-in-End-clause-fills
returns-in-End-clause-fills g c =
    let s = c.if-self-eq-ROOM.self-inside in
    let before : Holds c.args.self.now c.self.inside = (c.self.invariant.0, c.self.invariant.1, c.self.invariant.2, c.self.view_is) in
    let stands : Holds c.args.self.now s =
    elim c.if-self-eq-ROOM.branch [
      | then-self-eq-ROOM w ↦ subst (Holds c.args.self.now) (sym w.self-inside-is) (stands_settled _ _ _ _ _ before w.copy_within.ensures.items)
      | else-self-eq-ROOM w ↦ subst (Holds c.args.self.now) (sym w.self-inside-is) before
    ] in
    let rest = post_of s.to (65536 - s.to) c.deref_mut.result.now in
    let store : List ℕ = take s.to c.deref_mut.result.now ++ (c.read.new.to ++ rest) in
    let whole : length store ≡ s.store.len = whole_length s.to c.deref_mut.result.now c.read.new.to s.store.items s.store.len (omega (arith, stands.1, stands.2, ap length c.deref_mut.ensures.value)) c.read.auto.to c.deref_mut.ensures.len in (
      c.in-End.ensures.bytes.0,
      c.in-End.ensures.bytes.1,
      ap (λ (l : List ℕ). take (s.to - s.from) (drop s.from l)) (with_items_is s.store store whole)
          ∙ stays _ s.from s.to _ c.deref_mut.result.now c.read.new.to rest stands c.deref_mut.ensures.value,
    )

pub returns-in-Failed-clause-fills : goal.returns-in-Failed-clause-fills
returns-in-Failed-clause-fills g c =
    let s = c.if-self-eq-ROOM.self-inside in
    let before : Holds c.args.self.now c.self.inside = (c.self.invariant.0, c.self.invariant.1, c.self.invariant.2, c.self.view_is) in
    let stands : Holds c.args.self.now s =
    elim c.if-self-eq-ROOM.branch [
      | then-self-eq-ROOM w ↦ subst (Holds c.args.self.now) (sym w.self-inside-is) (stands_settled _ _ _ _ _ before w.copy_within.ensures.items)
      | else-self-eq-ROOM w ↦ subst (Holds c.args.self.now) (sym w.self-inside-is) before
    ] in
    let rest = post_of s.to (65536 - s.to) c.deref_mut.result.now in
    let store : List ℕ = take s.to c.deref_mut.result.now ++ (c.read.new.to ++ rest) in
    let whole : length store ≡ s.store.len = whole_length s.to c.deref_mut.result.now c.read.new.to s.store.items s.store.len (omega (arith, stands.1, stands.2, ap length c.deref_mut.ensures.value)) c.read.auto.to c.deref_mut.ensures.len in (
      c.in-Failed.ensures.bytes,
      ap (λ (l : List ℕ). take (s.to - s.from) (drop s.from l)) (with_items_is s.store store whole)
          ∙ stays _ s.from s.to _ c.deref_mut.result.now c.read.new.to rest stands c.deref_mut.ensures.value,
    )
