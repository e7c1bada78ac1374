-- What instructions do.
use Rattle.std.specs.Prelude.{ℕ, zero, suc, List, [], ◌∷◌, drop, if◌then◌else◌}
use Rattle.tow_model.specs.declared.request.Request.{Request}
use Rattle.tow_semantics.specs.Predicates.{held, test_of}
use Rattle.tow_semantics.specs.Steps.{answered}
use Rattle.tow_semantics.specs.Effects.{effect_of}
use Rattle.tow_semantics.specs.Plans.{Way, Exits, act, default_way, marked, over, tested, without_context}
use Rattle.tow_program.specs.declared.instruction.Instruction.{Instruction}
use Rattle.tow_program.specs.declared.instruction.Instruction.TheVariants.{Ask, Do, Skip}

-- what the instructions do, where so many are passed over first; behind the last one stands the default handler
abbrev pub run : Request → ℕ → Exits → List Instruction → ℕ → Way
run q m exits [] n s = exits.default s
run q m exits (i ∷ is) (suc n) s = run q m exits is n s
run q m exits (Ask test holds fails ∷ is) zero s =
    let h = held (test_of test q s.state m) s.state in run q m exits is (if h.holds then holds else fails) (tested h.state s)
run q m exits (Do a ∷ is) zero s = act exits (effect_of a q s.state m) (run q m exits is 0) s (marked a s)
run q m exits (Skip n ∷ is) zero s = run q m exits is n s

-- the ways that leave a program, where so many restarts are left; one more answers 500
abbrev pub exits_in : List Instruction → Request → ℕ → ℕ → Exits
exits_in program q m zero = record { again = λ s. over (answered 500 s.state) s; default = default_way }
exits_in program q m (suc left) =
    record { again = λ s. run q m (exits_in program q m left) program 0 (without_context s); default = default_way }

-- the way from an instruction on, where so many restarts are left
abbrev pub way_in : List Instruction → Request → ℕ → ℕ → ℕ → Way
way_in program q m left at = run q m (exits_in program q m left) (drop at program) 0
