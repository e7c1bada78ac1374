-- Building a tree of its parts gives what its derivation stands for, or its first fault.
use Rattle.std.proofs.Common.{◌≡◌, List, [], ◌∷◌, ◌++◌, Option, None, Some, IfSome, Ok, Err, refl, sym, ap, ◌∙◌, append_assoc}
use Rattle.std.proofs.lemmas.List.{append-nil}
use Rattle.tow_model.specs.declared.action.Action.{Action}
use Rattle.tow_model.specs.declared.predicate.Test.{Test}
use Rattle.tow_model.specs.declared.predicate.Predicate.{Predicate}
use Rattle.tow_model.specs.declared.predicate.Predicate.TheVariants.{Is, Not, And, Or}
use Rattle.tow_model.specs.declared.statement.Statement.{Statement}
use Rattle.tow_model.specs.declared.statement.Statement.TheVariants.{When, Act, Block}
use Rattle.tow_language.specs.Raw.{RawPredicate, alone, or_more, RawConjunction, single, and_more, RawFactor, test, negated, grouped, RawTarget, handler, restart, done, block, RawStatement, act, when, when_else, RawList, none, more}
use Rattle.tow_language.specs.Fit.{TextFault, ◌>>=◌, Counts, Fitted, fit_test, fit_action, fit_predicate, fit_or, fit_conjunction, fit_and, fit_factor, fit_target, fit_statement, fit_list, fit}
use Rattle.tow_parse.specs.Parts.{RawPart, a_not, an_and, an_or, a_close, a_when, a_when_else, an_end, predicate_parts, or_parts, conjunction_parts, and_parts, factor_parts, target_parts, statement_parts, list_parts, parts_of}
use Rattle.tow_fit.specs.declared.fault.ParseFault.{ParseFault}
use Rattle.tow_fit.specs.Faults.{parse_fault, Fails}
use Rattle.tow_parse.specs.Building.{Built, FailsAt, Outcome, goes, fails, stuck, fitted, then_from, push_predicate, push_target, step, play, nothing}

-- what goes on alike after each value goes on alike after a fit, and what follows a fit may be taken with it
through : {A B : Type 0} (r : Fitted A) (f : A × Counts → Fitted B) (g : B → Counts → Outcome) (h : A → Counts → Outcome) → ((x : A) (n : Counts) → h x n ≡ fitted (f (x, n)) g) → fitted r h ≡ fitted (r >>= f) g
through (Ok x) f g h same = same x.0 x.1
through (Err e) f g h same = refl

-- what is built once a predicate, or a statement, or the statements of a list, are built too
abbrev predicate_put : Built → Predicate → Counts → Built
predicate_put b p n = record b { predicates = p ∷ b.predicates; counts = n }

abbrev target_put : Built → Statement → Counts → Built
target_put b s n = record b { targets = s ∷ b.targets; counts = n }

abbrev list_put : Built → List Statement → Counts → Built
list_put b ss n = record b { list = b.list ++ ss; counts = n }

-- the parts may be taken one list after the other
regroup : (ps qs rest : List RawPart) (b : Built) → play ((ps ++ qs) ++ rest) b ≡ play (ps ++ (qs ++ rest)) b
regroup ps qs rest b = ap (λ parts. play parts b) (append_assoc ps qs rest)

mutual
  play_predicate : (p : RawPredicate) (rest : List RawPart) (b : Built) →
      play (predicate_parts p ++ rest) b ≡ fitted (fit_predicate p b.counts) (λ x m. play rest (predicate_put b x m))
  play_predicate (alone c) rest b = play_conjunction c rest b
  play_predicate (or_more c p) rest b =
      regroup (conjunction_parts c) (or_parts p) rest b
      ∙ play_conjunction c (or_parts p ++ rest) b
      ∙ through (fit_conjunction c b.counts) (λ x. fit_or p x.0 x.1) (λ x m. play rest (predicate_put b x m)) _ (λ x n. play_or p x rest b n)

  play_or : (p : RawPredicate) (left : Predicate) (rest : List RawPart) (b : Built) (n : Counts) →
      play (or_parts p ++ rest) (predicate_put b left n) ≡ fitted (fit_or p left n) (λ x m. play rest (predicate_put b x m))
  play_or (alone c) left rest b n =
      regroup (conjunction_parts c) (an_or ∷ []) rest (predicate_put b left n)
      ∙ play_conjunction c (an_or ∷ rest) (predicate_put b left n)
      ∙ through (fit_conjunction c n) (λ x. Ok (Or left x.0, x.1)) (λ x m. play rest (predicate_put b x m)) _ (λ x m. refl)
  play_or (or_more c p) left rest b n =
      regroup (conjunction_parts c) (an_or ∷ or_parts p) rest (predicate_put b left n)
      ∙ play_conjunction c (an_or ∷ (or_parts p ++ rest)) (predicate_put b left n)
      ∙ through (fit_conjunction c n) (λ x. fit_or p (Or left x.0) x.1) (λ x m. play rest (predicate_put b x m)) _ (λ x m. play_or p (Or left x) rest b m)

  play_conjunction : (c : RawConjunction) (rest : List RawPart) (b : Built) →
      play (conjunction_parts c ++ rest) b ≡ fitted (fit_conjunction c b.counts) (λ x m. play rest (predicate_put b x m))
  play_conjunction (single f) rest b = play_factor f rest b
  play_conjunction (and_more f c) rest b =
      regroup (factor_parts f) (and_parts c) rest b
      ∙ play_factor f (and_parts c ++ rest) b
      ∙ through (fit_factor f b.counts) (λ x. fit_and c x.0 x.1) (λ x m. play rest (predicate_put b x m)) _ (λ x n. play_and c x rest b n)

  play_and : (c : RawConjunction) (left : Predicate) (rest : List RawPart) (b : Built) (n : Counts) →
      play (and_parts c ++ rest) (predicate_put b left n) ≡ fitted (fit_and c left n) (λ x m. play rest (predicate_put b x m))
  play_and (single f) left rest b n =
      regroup (factor_parts f) (an_and ∷ []) rest (predicate_put b left n)
      ∙ play_factor f (an_and ∷ rest) (predicate_put b left n)
      ∙ through (fit_factor f n) (λ x. Ok (And left x.0, x.1)) (λ x m. play rest (predicate_put b x m)) _ (λ x m. refl)
  play_and (and_more f c) left rest b n =
      regroup (factor_parts f) (an_and ∷ and_parts c) rest (predicate_put b left n)
      ∙ play_factor f (an_and ∷ (and_parts c ++ rest)) (predicate_put b left n)
      ∙ through (fit_factor f n) (λ x. fit_and c (And left x.0) x.1) (λ x m. play rest (predicate_put b x m)) _ (λ x m. play_and c (And left x) rest b m)

  play_factor : (f : RawFactor) (rest : List RawPart) (b : Built) →
      play (factor_parts f ++ rest) b ≡ fitted (fit_factor f b.counts) (λ x m. play rest (predicate_put b x m))
  play_factor (test c) rest b = call_put (fit_test c b.counts)
    where
      call_put : (r : Fitted Test) → then_from (fitted r (λ t n. push_predicate b (Is t) n)) (play rest) ≡ fitted (r >>= (λ x. Ok (Is x.0, x.1))) (λ x m. play rest (predicate_put b x m))
      call_put (Ok x) = refl
      call_put (Err e) = refl
  play_factor (negated f) rest b =
      regroup (factor_parts f) (a_not ∷ []) rest b
      ∙ play_factor f (a_not ∷ rest) b
      ∙ through (fit_factor f b.counts) (λ x. Ok (Not x.0, x.1)) (λ x m. play rest (predicate_put b x m)) _ (λ x m. refl)
  play_factor (grouped p) rest b = play_predicate p rest b

mutual
  play_target : (t : RawTarget) (rest : List RawPart) (b : Built) →
      play (target_parts t ++ rest) b ≡ fitted (fit_target t b.counts) (λ x m. play rest (target_put b x m))
  play_target (handler c) rest b = call_put (fit_action c b.counts)
    where
      call_put : (r : Fitted Action) → then_from (fitted r (λ a n. push_target b (Act a) n)) (play rest) ≡ fitted (r >>= (λ x. Ok (Act x.0, x.1))) (λ x m. play rest (target_put b x m))
      call_put (Ok x) = refl
      call_put (Err e) = refl
  play_target restart rest b = refl
  play_target done rest b = refl
  play_target (block raw) rest b =
      let inside : Built = record b { list = []; outer = b.list ∷ b.outer } in
      regroup (list_parts raw) (a_close ∷ []) rest inside
      ∙ play_list raw (a_close ∷ rest) inside
      ∙ through (fit_list raw b.counts) (λ x. Ok (Block x.0, x.1)) (λ x m. play rest (target_put b x m)) _ (λ x m. refl)

  play_statement : (s : RawStatement) (rest : List RawPart) (b : Built) →
      play (statement_parts s ++ rest) b ≡ fitted (fit_statement s b.counts) (λ x m. play rest (target_put b x m))
  play_statement (act t) rest b = play_target t rest b
  play_statement (when p t) rest b =
      regroup (predicate_parts p) (target_parts t ++ a_when ∷ []) rest b
      ∙ play_predicate p ((target_parts t ++ a_when ∷ []) ++ rest) b
      ∙ through (fit_predicate p b.counts) (λ x. fit_target t x.1 >>= (λ y. Ok (When x.0 y.0 None, y.1))) (λ x m. play rest (target_put b x m)) _ (λ x n.
      regroup (target_parts t) (a_when ∷ []) rest (predicate_put b x n)
      ∙ play_target t (a_when ∷ rest) (predicate_put b x n)
      ∙ through (fit_target t n) (λ y. Ok (When x y.0 None, y.1)) (λ x m. play rest (target_put b x m)) _ (λ y m. refl))
  play_statement (when_else p t s) rest b =
      let last = statement_parts s ++ a_when_else ∷ [] in
      regroup (predicate_parts p) (target_parts t ++ last) rest b
      ∙ play_predicate p ((target_parts t ++ last) ++ rest) b
      ∙ through (fit_predicate p b.counts) (λ x. fit_target t x.1 >>= (λ y. fit_statement s y.1 >>= (λ z. Ok (When x.0 y.0 (Some z.0), z.1)))) (λ x m. play rest (target_put b x m)) _ (λ x n.
      regroup (target_parts t) last rest (predicate_put b x n)
      ∙ play_target t (last ++ rest) (predicate_put b x n)
      ∙ through (fit_target t n) (λ y. fit_statement s y.1 >>= (λ z. Ok (When x y.0 (Some z.0), z.1))) (λ x m. play rest (target_put b x m)) _ (λ y m.
      regroup (statement_parts s) (a_when_else ∷ []) rest (target_put (predicate_put b x n) y m)
      ∙ play_statement s (a_when_else ∷ rest) (target_put (predicate_put b x n) y m)
      ∙ through (fit_statement s m) (λ z. Ok (When x y (Some z.0), z.1)) (λ x m. play rest (target_put b x m)) _ (λ z k. refl)))

  play_list : (raw : RawList) (rest : List RawPart) (b : Built) →
      play (list_parts raw ++ rest) b ≡ fitted (fit_list raw b.counts) (λ x m. play rest (list_put b x m))
  play_list none rest b = ap (λ list. play rest (record b { list = list })) (sym (append-nil b.list))
  play_list (more s raw) rest b =
      regroup (statement_parts s) (an_end ∷ list_parts raw) rest b
      ∙ play_statement s (an_end ∷ (list_parts raw ++ rest)) b
      ∙ through (fit_statement s b.counts) (λ x. fit_list raw x.1 >>= (λ y. Ok (x.0 ∷ y.0, y.1))) (λ x m. play rest (list_put b x m)) _ (λ x n.
      play_list raw rest (list_put b (x ∷ []) n)
      ∙ through (fit_list raw n) (λ y. Ok (x ∷ y.0, y.1)) (λ x m. play rest (list_put b x m)) _ (λ y m.
      ap (λ list. play rest (record b { list = list; counts = m })) (append_assoc b.list (x ∷ []) y)))

-- the parts of a derivation come to its statements with nothing around them, or to its first fault
pub play_whole : (raw : RawList) → play (parts_of raw) nothing ≡ fitted (fit raw) (λ tree n. goes (list_put nothing tree n))
play_whole raw = ap (λ parts. play parts nothing) (sym (append-nil (list_parts raw))) ∙ play_list raw [] nothing

-- where they have come to an end, what is built is what the derivation stands for
pub played_out : (raw : RawList) (parts : List RawPart) (b : Built) → parts_of raw ≡ parts → goes b ≡ play parts nothing → fit raw ≡ Ok (b.list, b.counts)
played_out raw parts b same end = at_end (fit raw) (end ∙ ap (λ ps. play ps nothing) (sym same) ∙ play_whole raw)
  where
    at_end : (r : Fitted (List Statement)) → goes b ≡ fitted r (λ tree n. goes (list_put nothing tree n)) → r ≡ Ok (b.list, b.counts)
    at_end (Ok x) e = let same_built : b ≡ list_put nothing x.0 x.1 = cc in ap (λ (c : Built). Ok (c.list, c.counts)) (sym same_built)
    at_end (Err f) e = cc

-- where a part comes to a fault, it is the derivation's
fault_met : (raw : RawList) (parts : List RawPart) (part : RawPart) (rest : List RawPart) (b : Built) (f : TextFault) → parts_of raw ≡ parts →
    play (part ∷ rest) b ≡ play parts nothing → step part b ≡ fails f → fit raw ≡ Err f
fault_met raw parts part rest b f same played met =
    at_fault (fit raw) (sym (ap (λ o. then_from o (play rest)) met) ∙ played ∙ ap (λ ps. play ps nothing) (sym same) ∙ play_whole raw)
  where
    at_fault : (r : Fitted (List Statement)) → fails f ≡ fitted r (λ tree n. goes (list_put nothing tree n)) → r ≡ Err f
    at_fault (Ok x) e = cc
    at_fault (Err g) e = let same_fault : f ≡ g = cc in ap Err (sym same_fault)

pub fault_named : (raw : RawList) (parts : List RawPart) (part : RawPart) (rest : List RawPart) (b : Built) (e : ParseFault) → parts_of raw ≡ parts →
    play (part ∷ rest) b ≡ play parts nothing → FailsAt e (step part b) → Fails e (fit raw)
fault_named raw parts part rest b e same played met = named (parse_fault e) met
  where
    named : (o : Option TextFault) → IfSome o (λ f. step part b ≡ fails f) → IfSome o (λ f. fit raw ≡ Err f)
    named None h = tt
    named (Some f) h = fault_met raw parts part rest b f same played h

-- no part lacks what it joins
pub never_stuck : (raw : RawList) (parts : List RawPart) (part : RawPart) (rest : List RawPart) (b : Built) → parts_of raw ≡ parts →
    play (part ∷ rest) b ≡ play parts nothing → step part b ≡ stuck → ⊥
never_stuck raw parts part rest b same played met =
    not_stuck (fit raw) (sym (ap (λ o. then_from o (play rest)) met) ∙ played ∙ ap (λ ps. play ps nothing) (sym same) ∙ play_whole raw)
  where
    not_stuck : (r : Fitted (List Statement)) → stuck ≡ fitted r (λ tree n. goes (list_put nothing tree n)) → ⊥
    not_stuck (Ok x) e = cc
    not_stuck (Err g) e = cc
