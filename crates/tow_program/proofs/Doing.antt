-- The instructions of a text do what its plan says.
use Rattle.std.proofs.Common.{◌≡◌, ℕ, zero, suc, ◌+◌, Bool, true, false, List, [], ◌∷◌, ◌++◌, map, length, if◌then◌else◌, Some, None, refl, sym, ap, ◌∙◌, append_assoc, append-nil, arith}
use mathlib.Core.Path.{fun_ext}
use Rattle.tow_model.specs.declared.request.Request.{Request}
use Rattle.tow_model.specs.declared.predicate.Predicate.{Predicate}
use Rattle.tow_model.specs.declared.statement.Statement.{Statement, fold-roll-Statement, roll-Statement, map-Statement, ind-Statement}
use Rattle.tow_model.specs.declared.statement.Statement.TheOpen.{Statement-F, When, Act, Block}
use Rattle.tow_semantics.specs.Predicates.{holds_of}
use Rattle.tow_semantics.specs.Plans.{Stand, Way, Exits, plan_all, plan_by, plan_of, default_way, tested, without_context}
use Rattle.tow_program.specs.declared.instruction.Instruction.{Instruction}
use Rattle.tow_program.specs.declared.instruction.Instruction.TheVariants.{Skip}
use Rattle.tow_program.specs.Programs.{asking, joined, conditional, instructions_by, instructions_of, program_of}
use Rattle.tow_program.specs.Runs.{run}
use Rattle.tow_program.specs.Laws.{StatementIsPlan, ProgramIsPlan}
use Rattle.tow_program.proofs.Asking.{predicate_holds, skips, skips_all}

module _ (q : Request) (m : ℕ) (exits : Exits) where
  abbrev Does : List Instruction → (Way → Way) → Type 0
  Does c w = (rest : List Instruction) → run q m exits (c ++ rest) 0 ≡ w (run q m exits rest 0)

  picks : (b : Bool) (is : List Instruction) (skip : ℕ) (f g : Way) (s : Stand) → run q m exits is 0 s ≡ f s → run q m exits is skip s ≡ g s →
      run q m exits is (if b then 0 else skip) s ≡ (if b then f else g) s
  picks true is skip f g s e k = e
  picks false is skip f g s e k = k

  when_does : (t : Predicate) (a : List Instruction) (v : Way → Way) → Does a v →
      Does (conditional t a None) (λ next s. let h = holds_of t q s.state m in (if h.holds then v next else next) (tested h.state s))
  when_does t a v does_a rest = fun_ext (λ s.
      let h = holds_of t q s.state m in
      ap (λ c. run q m exits c 0 s) (append_assoc (asking t 0 (length a)) a rest)
      ∙ predicate_holds q m exits t 0 (length a) (a ++ rest) s
      ∙ picks h.holds (a ++ rest) (length a) (v (run q m exits rest 0)) (run q m exits rest 0) (tested h.state s)
      (ap (λ (w : Way). w (tested h.state s)) (does_a rest)) (skips_all q m exits a rest (tested h.state s)))

  when_else_does : (t : Predicate) (a b : List Instruction) (v w : Way → Way) → Does a v → Does b w →
      Does (conditional t a (Some b)) (λ next s. let h = holds_of t q s.state m in (if h.holds then v next else w next) (tested h.state s))
  when_else_does t a b v w does_a does_b rest = fun_ext (λ s.
      let h = holds_of t q s.state m in
      let behind : List Instruction = Skip (length b) ∷ (b ++ rest) in
      let past : run q m exits behind 0 ≡ run q m exits rest 0 = fun_ext (λ r. skips_all q m exits b rest r) in
      let one : length a + 1 ≡ suc (length a) = omega arith in
      ap (λ c. run q m exits c 0 s)
      (append_assoc (asking t 0 (suc (length a))) (a ++ Skip (length b) ∷ b) rest
      ∙ ap (λ c. asking t 0 (suc (length a)) ++ c) (append_assoc a (Skip (length b) ∷ b) rest))
      ∙ predicate_holds q m exits t 0 (suc (length a)) (a ++ behind) s
      ∙ picks h.holds (a ++ behind) (suc (length a)) (v (run q m exits rest 0)) (w (run q m exits rest 0)) (tested h.state s)
      (ap (λ (k : Way). k (tested h.state s)) (does_a behind ∙ ap v past))
      (ap (λ n. run q m exits (a ++ behind) n (tested h.state s)) (sym one)
      ∙ skips q m exits a behind 1 (tested h.state s)
      ∙ ap (λ (k : Way). k (tested h.state s)) (does_b rest)))

  abbrev Good : Type 0
  Good = (t : Statement) × Does (instructions_of t) (plan_of q m exits t)

  all_good : (parts : List Good) →
      Does (joined (map instructions_of (map (λ k. k.0) parts))) (plan_all (map (plan_of q m exits) (map (λ k. k.0) parts)))
  all_good [] rest = refl
  all_good (k ∷ parts) rest =
      ap (λ c. run q m exits c 0) (append_assoc (instructions_of k.0) (joined (map instructions_of (map (λ j. j.0) parts))) rest)
      ∙ k.1 (joined (map instructions_of (map (λ j. j.0) parts)) ++ rest)
      ∙ ap (plan_of q m exits k.0) (all_good parts rest)

  layer : (y : Statement-F Good) →
      Does (instructions_by (map-Statement Statement (List Instruction) instructions_of (map-Statement Good Statement (λ k. k.0) y)))
      (plan_by q m exits (map-Statement Statement (Way → Way) (plan_of q m exits) (map-Statement Good Statement (λ k. k.0) y)))
  layer (When t a None) = when_does t (instructions_of a.0) (plan_of q m exits a.0) a.1
  layer (When t a (Some b)) =
      when_else_does t (instructions_of a.0) (instructions_of b.0) (plan_of q m exits a.0) (plan_of q m exits b.0) a.1 b.1
  layer (Act a) = λ rest. refl
  layer (Block parts) = all_good parts

  same : (c d : List Instruction) (v w : Way → Way) → c ≡ d → v ≡ w → Does d w → Does c v
  same c d v w e f does rest =
      ap (λ k. run q m exits (k ++ rest) 0) e ∙ does rest ∙ ap (λ (k : Way → Way). k (run q m exits rest 0)) (sym f)

  statement_does : (t : Statement) → Does (instructions_of t) (plan_of q m exits t)
  statement_does = ind-Statement (λ t. Does (instructions_of t) (plan_of q m exits t)) (λ x y is.
      same (instructions_of (roll-Statement x)) _ (plan_of q m exits (roll-Statement x)) _
      (fold-roll-Statement (List Instruction) instructions_by x
      ∙ ap (λ l. instructions_by (map-Statement Statement (List Instruction) instructions_of l)) (sym is))
      (fold-roll-Statement (Way → Way) (plan_by q m exits) x
      ∙ ap (λ l. plan_by q m exits (map-Statement Statement (Way → Way) (plan_of q m exits) l)) (sym is))
      (layer y))

  list_does : (tree : List Statement) → Does (program_of tree) (plan_all (map (plan_of q m exits) tree))
  list_does [] rest = refl
  list_does (t ∷ tree) rest =
      ap (λ c. run q m exits c 0) (append_assoc (instructions_of t) (program_of tree) rest)
      ∙ statement_does t (program_of tree ++ rest) ∙ ap (plan_of q m exits t) (list_does tree rest)

  whole : (tree : List Statement) → run q m exits (program_of tree) 0 ≡ plan_all (map (plan_of q m exits) tree) exits.default
  whole tree = ap (λ c. run q m exits c 0) (sym (append-nil (program_of tree))) ∙ list_does tree []

pub statement_is_plan : StatementIsPlan
statement_is_plan q m exits t rest = statement_does q m exits t rest

pub program_is_plan : ProgramIsPlan
program_is_plan tree q m zero = whole q m _ tree
program_is_plan tree q m (suc left) =
    ap (λ (again : Way). run q m (record { again = again; default = default_way }) (program_of tree) 0)
    (fun_ext (λ s. ap (λ (w : Way). w (without_context s)) (program_is_plan tree q m left)))
    ∙ whole q m _ tree
