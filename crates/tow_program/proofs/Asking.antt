-- The instructions of a predicate go on where it leads to.
use Rattle.std.proofs.Common.{◌≡◌, ℕ, suc, ◌+◌, Bool, true, false, not, List, [], ◌∷◌, ◌++◌, length, if◌then◌else◌, refl, sym, ap, ◌∙◌, append_assoc, zero-add, add-zero, arith}
use Rattle.tow_model.specs.declared.request.Request.{Request}
use Rattle.tow_model.specs.declared.record.Record.{Record}
use Rattle.tow_model.specs.declared.predicate.Predicate.{Predicate, fold-Predicate, fold-roll-Predicate, roll-Predicate, map-Predicate, ind-Predicate}
use Rattle.tow_model.specs.declared.predicate.Predicate.TheOpen.{Predicate-F, Is, Not, And, Or}
use Rattle.tow_semantics.specs.Predicates.{Held, holds_by}
use Rattle.tow_semantics.specs.Plans.{Exits, Mark, Free, Passed, Worked, Stand, after_step, tested}
use Rattle.tow_program.specs.declared.instruction.Instruction.{Instruction}
use Rattle.tow_program.specs.Programs.{Asking, asking_by, asking, both, either}
use Rattle.tow_program.specs.Runs.{run}
use Rattle.tow_program.specs.Laws.{PredicateHolds}

-- a second step leaves the mark as the first one
after_steps : (mark : Mark) → after_step (after_step mark) ≡ after_step mark
after_steps Free = refl
after_steps Passed = refl
after_steps Worked = refl

tested_twice : (x y : Record) (s : Stand) → tested y (tested x s) ≡ tested y s
tested_twice x y s = ap (λ (mark : Mark). record { state = y; mark = mark }) (after_steps s.mark)

module _ (q : Request) (m : ℕ) (exits : Exits) where
  pub skips : (c rest : List Instruction) (n : ℕ) (s : Stand) → run q m exits (c ++ rest) (length c + n) s ≡ run q m exits rest n s
  skips [] rest n s = ap (λ k. run q m exits rest k s) (zero-add n)
  skips (i ∷ c) rest n s =
      let e : length (i ∷ c) + n ≡ suc (length c + n) = omega arith in
      ap (λ k. run q m exits (i ∷ (c ++ rest)) k s) e ∙ skips c rest n s

  pub skips_all : (c rest : List Instruction) (s : Stand) → run q m exits (c ++ rest) (length c) s ≡ run q m exits rest 0 s
  skips_all c rest s = ap (λ k. run q m exits (c ++ rest) k s) (sym (add-zero (length c))) ∙ skips c rest 0 s

  -- they go on where a predicate leads to that answers so
  abbrev Asks : Asking → (Record → Held) → Type 0
  Asks a f =
      (holds fails : ℕ) (rest : List Instruction) (s : Stand) →
      run q m exits (a holds fails ++ rest) 0 s
      ≡ run q m exits rest (if (f s.state).holds then holds else fails) (tested (f s.state).state s)

  not_asks : (a : Asking) (f : Record → Held) → Asks a f → Asks (λ holds fails. a fails holds) (λ x. record (f x) { holds = not (f x).holds })
  not_asks a f asks holds fails rest s = asks fails holds rest s ∙ turned (f s.state).holds
    where
      turned : (b : Bool) → run q m exits rest (if b then fails else holds) (tested (f s.state).state s)
          ≡ run q m exits rest (if not b then holds else fails) (tested (f s.state).state s)
      turned true = refl
      turned false = refl

  both_ask : (a b : Asking) (f g : Record → Held) → Asks a f → Asks b g →
      Asks (λ holds fails. both a (b holds fails) fails) (λ x. elim (f x).holds [ true ↦ g (f x).state | false ↦ f x ])
  both_ask a b f g first second holds fails rest s =
      ap (λ c. run q m exits c 0 s) (append_assoc (a 0 (length (b holds fails) + fails)) (b holds fails) rest)
      ∙ first 0 (length (b holds fails) + fails) (b holds fails ++ rest) s
      ∙ by (f s.state) (f s.state).holds refl
    where
      by : (h : Held) (c : Bool) → h.holds ≡ c →
          run q m exits (b holds fails ++ rest) (if c then 0 else length (b holds fails) + fails) (tested h.state s)
          ≡ (let k : Held = elim c [ true ↦ g h.state | false ↦ h ] in
          run q m exits rest (if k.holds then holds else fails) (tested k.state s))
      by h true is = second holds fails rest (tested h.state s)
          ∙ ap (run q m exits rest (if (g h.state).holds then holds else fails)) (tested_twice h.state (g h.state).state s)
      by h false is = skips (b holds fails) rest fails (tested h.state s)
          ∙ ap (λ (c : Bool). run q m exits rest (if c then holds else fails) (tested h.state s)) (sym is)

  either_asks : (a b : Asking) (f g : Record → Held) → Asks a f → Asks b g →
      Asks (λ holds fails. either a (b holds fails) holds) (λ x. elim (f x).holds [ true ↦ f x | false ↦ g (f x).state ])
  either_asks a b f g first second holds fails rest s =
      ap (λ c. run q m exits c 0 s) (append_assoc (a (length (b holds fails) + holds) 0) (b holds fails) rest)
      ∙ first (length (b holds fails) + holds) 0 (b holds fails ++ rest) s
      ∙ by (f s.state) (f s.state).holds refl
    where
      by : (h : Held) (c : Bool) → h.holds ≡ c →
          run q m exits (b holds fails ++ rest) (if c then length (b holds fails) + holds else 0) (tested h.state s)
          ≡ (let k : Held = elim c [ true ↦ h | false ↦ g h.state ] in
          run q m exits rest (if k.holds then holds else fails) (tested k.state s))
      by h true is = skips (b holds fails) rest holds (tested h.state s)
          ∙ ap (λ (c : Bool). run q m exits rest (if c then holds else fails) (tested h.state s)) (sym is)
      by h false is = second holds fails rest (tested h.state s)
          ∙ ap (run q m exits rest (if (g h.state).holds then holds else fails)) (tested_twice h.state (g h.state).state s)

  abbrev holding : Predicate → Record → Held
  holding = fold-Predicate (Record → Held) (holds_by q m)

  abbrev Good : Type 0
  Good = (p : Predicate) × Asks (asking p) (holding p)

  layer : (y : Predicate-F Good) →
      Asks (asking_by (map-Predicate Predicate Asking asking (map-Predicate Good Predicate (λ k. k.0) y)))
      (holds_by q m (map-Predicate Predicate (Record → Held) holding (map-Predicate Good Predicate (λ k. k.0) y)))
  layer (Is test) = λ holds fails rest s. refl
  layer (Not p) = not_asks (asking p.0) (holding p.0) p.1
  layer (And a b) = both_ask (asking a.0) (asking b.0) (holding a.0) (holding b.0) a.1 b.1
  layer (Or a b) = either_asks (asking a.0) (asking b.0) (holding a.0) (holding b.0) a.1 b.1

  same : (a b : Asking) (f g : Record → Held) → a ≡ b → f ≡ g → Asks b g → Asks a f
  same a b f g e k asks holds fails rest s =
      ap (λ (c : Asking). run q m exits (c holds fails ++ rest) 0 s) e
      ∙ asks holds fails rest s
      ∙ ap (λ (h : Record → Held). run q m exits rest (if (h s.state).holds then holds else fails) (tested (h s.state).state s)) (sym k)

  predicate_asks : (p : Predicate) → Asks (asking p) (holding p)
  predicate_asks = ind-Predicate (λ p. Asks (asking p) (holding p)) (λ x y is.
      same (asking (roll-Predicate x)) _ (holding (roll-Predicate x)) _
      (fold-roll-Predicate Asking asking_by x ∙ ap (λ l. asking_by (map-Predicate Predicate Asking asking l)) (sym is))
      (fold-roll-Predicate (Record → Held) (holds_by q m) x ∙ ap (λ l. holds_by q m (map-Predicate Predicate (Record → Held) holding l)) (sym is))
      (layer y))

pub predicate_holds : PredicateHolds
predicate_holds q m exits p holds fails rest s = predicate_asks q m exits p holds fails rest s
