use Rattle.std.proofs.Common.{refl, sym, ◌∙◌, ap, subst, ◌≡◌, false, [], ◌∷◌, ◌++◌}
use Rattle.tow_parse.specs.declared.goal.Goal.TheVariants.{Called, Named}
use Rattle.tow_parse.specs.declared.goal.Role.TheVariants.{Test, Handler, Front}
use Rattle.tow_parse.specs.declared.part.Part.TheVariants as parts
use Rattle.std.specs.Prelude.{map}
use Rattle.tow_language.specs.Raw.{unnamed}
use Rattle.tow_fit.specs.declared.call.WrittenParameters.TheVariants as written
use Rattle.tow_fit.specs.declared.call.Call.{Call}
use Rattle.tow_fit.specs.Calls.{call_of, value_of}
use Rattle.tow_parse.specs.Follows.{call_named}
use Rattle.tow_parse.specs.Moves.{Passes, told}
use Rattle.tow_parse.specs.Parts.{a_test, a_handler}
use Rattle.tow_parse.specs.Shape.{Shaped}
use Rattle.tow_parse.proofs.PassMoves.{test_named, handler_named, front_named}
use Rattle.tow_parse.proofs.Transport.{passed, passes_passes, told_none, told_one, some_then, none_then}
use Rattle.tow_parse.proofs.state.State.pass_name.Goals as goal

pub returns-in_ok-tell-in-Test-clause-none : goal.returns-in_ok-tell-in-Test-clause-none
returns-in_ok-tell-in-Test-clause-none c =
    let shaped = subst (λ k. Shaped (Named k c.args.name ∷ c.args.self.now.goals)) c.in-Test.is c.requires.shaped in
    let empty : call_of (record { name = c.args.name; parameters = written.Unnamed c.new.result }) ≡ call_named c.args.name (unnamed []) = ap (λ k. call_named c.args.name (unnamed (map value_of k))) c.new.ensures in
    let parts : told (record { goals = c.tell.new.self.goals; free = false; parts = c.tell.new.self.parts; alloc = c.tell.new.self.alloc }) ≡ told c.args.self.now ++ a_test (call_named c.args.name (unnamed [])) ∷ [] =
    told_one c.args.self.now (record { goals = c.tell.new.self.goals; free = false; parts = c.tell.new.self.parts; alloc = c.tell.new.self.alloc }) (parts.Test (record { name = c.args.name; parameters = written.Unnamed c.new.result })) c.in_ok-tell-in-Test.ensures.parts ∙ ap (λ k. told c.args.self.now ++ a_test k ∷ []) empty in
    let p = passed (Named Test c.args.name ∷ c.args.self.now.goals) c.args.self.now.goals false (a_test (call_named c.args.name (unnamed [])) ∷ []) c.args.self.now (record { goals = c.tell.new.self.goals; free = false; parts = c.tell.new.self.parts; alloc = c.tell.new.self.alloc }) refl parts c.args.look
    (test_named c.args.self.now.goals c.args.self.now.free c.args.look c.args.name c.requires.over shaped) in
    subst (λ k. Passes (Named k c.args.name ∷ c.args.self.now.goals) c.args.self.now c.args.look c.tell.new.self.goals (record { goals = c.tell.new.self.goals; free = false; parts = c.tell.new.self.parts; alloc = c.tell.new.self.alloc })) (sym c.in-Test.is)
    (subst (λ k. Passes (Named Test c.args.name ∷ c.args.self.now.goals) c.args.self.now c.args.look k (record { goals = c.tell.new.self.goals; free = false; parts = c.tell.new.self.parts; alloc = c.tell.new.self.alloc })) (sym c.in_ok-tell-in-Test.ensures.goals) p)

pub returns-in_ok-tell-in-Handler-clause-none : goal.returns-in_ok-tell-in-Handler-clause-none
returns-in_ok-tell-in-Handler-clause-none c =
    let shaped = subst (λ k. Shaped (Named k c.args.name ∷ c.args.self.now.goals)) c.in-Handler.is c.requires.shaped in
    let empty : call_of (record { name = c.args.name; parameters = written.Unnamed c.new.result }) ≡ call_named c.args.name (unnamed []) = ap (λ k. call_named c.args.name (unnamed (map value_of k))) c.new.ensures in
    let parts : told (record { goals = c.tell-in-Handler.new.self.goals; free = false; parts = c.tell-in-Handler.new.self.parts; alloc = c.tell-in-Handler.new.self.alloc }) ≡ told c.args.self.now ++ a_handler (call_named c.args.name (unnamed [])) ∷ [] =
    told_one c.args.self.now (record { goals = c.tell-in-Handler.new.self.goals; free = false; parts = c.tell-in-Handler.new.self.parts; alloc = c.tell-in-Handler.new.self.alloc }) (parts.Handler (record { name = c.args.name; parameters = written.Unnamed c.new.result })) c.in_ok-tell-in-Handler.ensures.parts ∙ ap (λ k. told c.args.self.now ++ a_handler k ∷ []) empty in
    let p = passed (Named Handler c.args.name ∷ c.args.self.now.goals) c.args.self.now.goals false (a_handler (call_named c.args.name (unnamed [])) ∷ []) c.args.self.now (record { goals = c.tell-in-Handler.new.self.goals; free = false; parts = c.tell-in-Handler.new.self.parts; alloc = c.tell-in-Handler.new.self.alloc }) refl parts c.args.look
    (handler_named c.args.self.now.goals c.args.self.now.free c.args.look c.args.name c.requires.over shaped) in
    subst (λ k. Passes (Named k c.args.name ∷ c.args.self.now.goals) c.args.self.now c.args.look c.tell-in-Handler.new.self.goals (record { goals = c.tell-in-Handler.new.self.goals; free = false; parts = c.tell-in-Handler.new.self.parts; alloc = c.tell-in-Handler.new.self.alloc })) (sym c.in-Handler.is)
    (subst (λ k. Passes (Named Handler c.args.name ∷ c.args.self.now.goals) c.args.self.now c.args.look k (record { goals = c.tell-in-Handler.new.self.goals; free = false; parts = c.tell-in-Handler.new.self.parts; alloc = c.tell-in-Handler.new.self.alloc })) (sym c.in_ok-tell-in-Handler.ensures.goals) p)

pub returns-in_ok-next-in-Front-clause-some : goal.returns-in_ok-next-in-Front-clause-some
returns-in_ok-next-in-Front-clause-some c =
    let call : Call = record { name = c.args.name; parameters = written.Unnamed c.new.result } in
    let shaped = subst (λ k. Shaped (Named k c.args.name ∷ c.args.self.now.goals)) c.in-Front.is c.requires.shaped in
    let made : call_of call ≡ call_named c.args.name (unnamed []) = ap (λ k. call_named c.args.name (unnamed (map value_of k))) c.new.ensures in
    let p = passed (Named (Front c.in-Front.levels) c.args.name ∷ c.args.self.now.goals) (Called c.in-Front.levels call ∷ c.args.self.now.goals) c.args.self.now.free [] c.args.self.now c.args.self.now refl (told_none c.args.self.now c.args.self.now refl) c.args.look
    (front_named c.args.self.now.goals c.args.self.now.free c.args.look c.args.name c.requires.over c.in-Front.levels call made shaped) in
    let q = subst (λ k. Passes (Named k c.args.name ∷ c.args.self.now.goals) c.args.self.now c.args.look (Called c.in-Front.levels call ∷ c.args.self.now.goals) c.args.self.now) (sym c.in-Front.is) p in
    some_then c.in_ok-next-in-Front.next _ _ (λ g m. passes_passes (Named c.args.role c.args.name ∷ c.args.self.now.goals) (Called c.in-Front.levels call ∷ c.args.self.now.goals) c.args.self.now c.args.self.now c.args.look q (g ∷ c.pass_called.new.self.goals) c.pass_called.new.self m) c.in_ok-next-in-Front.ensures.some

pub returns-in_ok-next-in-Front-clause-none : goal.returns-in_ok-next-in-Front-clause-none
returns-in_ok-next-in-Front-clause-none c =
    let call : Call = record { name = c.args.name; parameters = written.Unnamed c.new.result } in
    let shaped = subst (λ k. Shaped (Named k c.args.name ∷ c.args.self.now.goals)) c.in-Front.is c.requires.shaped in
    let made : call_of call ≡ call_named c.args.name (unnamed []) = ap (λ k. call_named c.args.name (unnamed (map value_of k))) c.new.ensures in
    let p = passed (Named (Front c.in-Front.levels) c.args.name ∷ c.args.self.now.goals) (Called c.in-Front.levels call ∷ c.args.self.now.goals) c.args.self.now.free [] c.args.self.now c.args.self.now refl (told_none c.args.self.now c.args.self.now refl) c.args.look
    (front_named c.args.self.now.goals c.args.self.now.free c.args.look c.args.name c.requires.over c.in-Front.levels call made shaped) in
    let q = subst (λ k. Passes (Named k c.args.name ∷ c.args.self.now.goals) c.args.self.now c.args.look (Called c.in-Front.levels call ∷ c.args.self.now.goals) c.args.self.now) (sym c.in-Front.is) p in
    none_then c.in_ok-next-in-Front.next _ _ (passes_passes (Named c.args.role c.args.name ∷ c.args.self.now.goals) (Called c.in-Front.levels call ∷ c.args.self.now.goals) c.args.self.now c.args.self.now c.args.look q c.pass_called.new.self.goals c.pass_called.new.self) c.in_ok-next-in-Front.ensures.none
