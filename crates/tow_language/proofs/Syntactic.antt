-- Texts that are not of the grammar: `else done`, and a predicate with an Arrow and nothing behind it.
use Rattle.std.specs.Prelude.{◌≡◌, ℕ, ◌-◌, ◌≤◌, true, false, List, [], ◌∷◌, ◌++◌, length, take, drop, codes}
use Rattle.std.proofs.Common.{refl, sym, ◌∙◌, ap, arith, subst}
use mathlib.Core.Logic.{inl, inr}
use lib.Utf8.{encode}
use Rattle.tow_language.specs.declared.kind.Kind.TheVariants.{Unexpected, TooDeep}
use Rattle.tow_language.specs.declared.token.Token.{Token}
use Rattle.tow_language.specs.declared.token.TokenKind.TheVariants.{Newline, Semi, Comma, Equals, OpenRound, CloseRound, OpenSquare, CloseSquare, OpenBrace, CloseBrace, Arrow, Quoted, Word}
use Rattle.tow_language.specs.Tokens.{Cuts}
use Rattle.tow_language.specs.Raw.{one, unnamed, RawPredicate, alone, or_more, single, and_more, RawFactor, test, negated, grouped, RawTarget, handler, restart, done, block, RawStatement, act, when, when_else, RawList, none, more}
use Rattle.tow_language.specs.Symbols.{Sign, word, quoted, mark, Symbol, joined, symbols_of}
use Rattle.tow_language.specs.Grammar.{Rest, AtEnd, Mark, SeparatorsThen, StatementThen, ListThen, ends_in_brace, PredicateThen, FactorThen, TargetThen}
use Rattle.tow_language.specs.Levels.{PredicateWithin, FactorWithin, StatementWithin, ListWithin}
use Rattle.tow_language.specs.Syntax.{IsList, IsUnexpected, IsTooDeep}
use Rattle.tow_language.specs.Fault.{IsFault, line_of, column_of}
use Rattle.tow_language.proofs.Unique.{After, begins, separates, is_separator, statement_no, list_after, one_predicate, arrow_never, target_not_empty, target_no_when, after_ends, end_closes, meet_next, predicate_begins, separator_begins_nothing, predicate_not_empty, ElseThen, call_no_keyword, two_words}

-- no list begins with a sign that begins no statement and separates none
pub list_no : (raw : RawList) (g : Sign) → begins g ≡ false → separates g ≡ false → (x : Symbol) (xs : List Symbol) → x.sign ≡ g → ListThen raw AtEnd (x ∷ xs) → ⊥
list_no none g off apart x xs e (inl a) = cc
list_no none g off apart x xs e (inr a) = let f : true ≡ false = sym (is_separator x.sign a.0) ∙ ap separates e ∙ apart in cc
list_no (more s raw) g off apart x xs e a = at_front (list_after s raw AtEnd (x ∷ xs) a)
  where
    at_front : SeparatorsThen (StatementThen s (After (ends_in_brace s) raw AtEnd)) (x ∷ xs) → ⊥
    at_front (inl b) = statement_no s g off _ (λ ys. Unit {0}) (x ∷ xs) b (e, tt)
    at_front (inr b) = let f : true ≡ false = sym (is_separator x.sign b.0) ∙ ap separates e ∙ apart in cc

-- a predicate and an Arrow, and then nothing, is no statement
arrow_end : (p : RawPredicate) (s : RawStatement) (raw : RawList) (xs : List Symbol) → PredicateThen p (Mark Arrow AtEnd) xs →
    StatementThen s (After (ends_in_brace s) raw AtEnd) xs → ⊥
arrow_end p (act t) raw xs a b = target_no_when t p _ AtEnd (after_ends _ raw AtEnd end_closes) xs b a
arrow_end p (when q t) raw xs a b =
    let o = one_predicate p q (Mark Arrow AtEnd) (Mark Arrow (TargetThen t (After (ends_in_brace (when q t)) raw AtEnd))) (arrow_never _) (arrow_never _) xs a b in
    let m = meet_next (mark Arrow) AtEnd (TargetThen t (After (ends_in_brace (when q t)) raw AtEnd)) o.1.0 o.1.1 o.1.2 in
    target_not_empty t _ (subst (TargetThen t (After (ends_in_brace (when q t)) raw AtEnd)) m.1 m.2)
arrow_end p (when_else q t u) raw xs a b =
    let o = one_predicate p q (Mark Arrow AtEnd) (Mark Arrow (TargetThen t (ElseThen u (After (ends_in_brace u) raw AtEnd)))) (arrow_never _) (arrow_never _) xs a b in
    let m = meet_next (mark Arrow) AtEnd (TargetThen t (ElseThen u (After (ends_in_brace u) raw AtEnd))) o.1.0 o.1.1 o.1.2 in
    target_not_empty t _ (subst (TargetThen t (ElseThen u (After (ends_in_brace u) raw AtEnd))) m.1 m.2)

predicate_dark : (p : RawPredicate) (L : Rest) (x : Symbol) (xs : List Symbol) → PredicateThen p L (x ∷ xs) → separates x.sign ≡ true → ⊥
predicate_dark p L x xs a on = separator_begins_nothing x.sign on (predicate_begins p L x xs a)

pub arrow_no_list : (p : RawPredicate) (raw : RawList) (xs : List Symbol) → PredicateThen p (Mark Arrow AtEnd) xs → ListThen raw AtEnd xs → ⊥
arrow_no_list p raw [] a b = predicate_not_empty p _ a
arrow_no_list p none (x ∷ xs) a (inl b) = cc
arrow_no_list p none (x ∷ xs) a (inr b) = predicate_dark p _ x xs a (is_separator x.sign b.0)
arrow_no_list p (more s raw) (x ∷ xs) a b = at_front (list_after s raw AtEnd (x ∷ xs) b)
  where
    at_front : SeparatorsThen (StatementThen s (After (ends_in_brace s) raw AtEnd)) (x ∷ xs) → ⊥
    at_front (inl c) = arrow_end p s raw (x ∷ xs) a c
    at_front (inr c) = predicate_dark p _ x xs a (is_separator x.sign c.0)

-- else done
abbrev alone_else_tokens : List Token
alone_else_tokens = record { kind = Word; from = 0; to = 4 } ∷ record { kind = Word; from = 5; to = 9 } ∷ []

alone_else_cuts : Cuts (codes "else done") alone_else_tokens
unfolding encode
alone_else_cuts = record { short = omega arith; utf8 = ((codes "else done"), (refl, refl)); whole = ([], (codes "else"), (codes " done"), refl, refl, refl, refl, (omega arith, refl, refl), ((codes " "), (codes "done"), [], refl, refl, refl, refl, (omega arith, refl, refl), ([], refl, refl))) }

alone_else_stops : IsUnexpected 32 (symbols_of (codes "else done") alone_else_tokens) 0
alone_else_stops = record {
  before = ([], none, (tt, refl));
  stops = λ d. inl (omega arith, λ (rest, raw, is). list_no raw (word (codes "else")) refl refl _ _ refl is.1);
}

alone_else_fault : IsFault (codes "else done") Unexpected 0
alone_else_fault = inr (inl (alone_else_tokens, 0, alone_else_cuts, alone_else_stops, refl))

-- path(/a) ->
abbrev no_target_tokens : List Token
no_target_tokens = record { kind = Word; from = 0; to = 4 } ∷ record { kind = OpenRound; from = 4; to = 5 } ∷ record { kind = Word; from = 5; to = 7 } ∷ record { kind = CloseRound; from = 7; to = 8 } ∷ record { kind = Arrow; from = 9; to = 11 } ∷ []

no_target_cuts : Cuts (codes "path(/a) ->") no_target_tokens
unfolding encode
no_target_cuts = record { short = omega arith; utf8 = ((codes "path(/a) ->"), (refl, refl)); whole = ([], (codes "path"), (codes "(/a) ->"), refl, refl, refl, refl, (omega arith, refl, refl), ([], (codes "("), (codes "/a) ->"), refl, refl, refl, refl, refl, ([], (codes "/a"), (codes ") ->"), refl, refl, refl, refl, (omega arith, refl, refl), ([], (codes ")"), (codes " ->"), refl, refl, refl, refl, refl, ((codes " "), (codes "->"), [], refl, refl, refl, refl, refl, ([], refl, refl)))))) }

no_target_stops : IsUnexpected 32 (symbols_of (codes "path(/a) ->") no_target_tokens) 5
no_target_stops = record {
  before = (record { sign = word (codes "done"); place = 12 } ∷ [], more (when (alone (single (test (record { name = record { bytes = (codes "path"); place = 0 }; parameters = unnamed ((one (record { bytes = (codes "/a"); place = 5 })) ∷ []) })))) (done)) (none), (((tt, tt), tt), inl (refl, (refl, refl, inr (inl (refl, inl (refl, refl, (refl, (refl, (refl, refl))))))))));
  stops = λ d. inr (refl, λ raw is. arrow_no_list (alone (single (test (record { name = record { bytes = (codes "path"); place = 0 }; parameters = unnamed ((one (record { bytes = (codes "/a"); place = 5 })) ∷ []) })))) raw _ (refl, (refl, refl, inr (inl (refl, inl (refl, refl, (refl, (refl, refl))))))) is.1);
}

no_target_fault : IsFault (codes "path(/a) ->") Unexpected 11
no_target_fault = inr (inl (no_target_tokens, 5, no_target_cuts, no_target_stops, refl))

no_target_at : (line_of (codes "path(/a) ->") 11 ≡ 1) × (column_of (codes "path(/a) ->") 11 ≡ 12)
no_target_at = (refl, refl)

-- some symbols are the word `not`, each
abbrev AreNots : List Symbol → Type 0
AreNots [] = Unit {0}
AreNots (x ∷ xs) = (x.sign ≡ word (codes "not")) × AreNots xs

-- each of them opens a level
factor_nots : (f : RawFactor) (n : ℕ) (L : Rest) (ns rest : List Symbol) → AreNots ns → FactorThen f L (ns ++ rest) → FactorWithin n f → length ns ≤ n
factor_nots f n L [] rest are a w = omega arith
factor_nots (test c) n L (x ∷ ns) rest are a w = absurd (call_no_keyword c (codes "not") refl L (λ ys. Unit {0}) (x ∷ (ns ++ rest)) a (are.0, tt))
factor_nots (negated f) n L (x ∷ ns) rest are a w =
    let r = factor_nots f (n - 1) L ns rest are.1 a.1 w.1 in let e = w.0 in omega (arith, r, e)
factor_nots (grouped p) n L (x ∷ ns) rest are a w = absurd (let e : mark OpenRound ≡ word (codes "not") = sym a.0 ∙ are.0 in cc)

predicate_nots : (p : RawPredicate) (n : ℕ) (L : Rest) (ns rest : List Symbol) → AreNots ns → PredicateThen p L (ns ++ rest) → PredicateWithin n p → length ns ≤ n
predicate_nots (alone (single f)) n L ns rest are a w = factor_nots f n _ ns rest are a w
predicate_nots (alone (and_more f c)) n L ns rest are a w = factor_nots f n _ ns rest are a w.0
predicate_nots (or_more (single f) p) n L ns rest are a w = factor_nots f n _ ns rest are a w.0
predicate_nots (or_more (and_more f c) p) n L ns rest are a w = factor_nots f n _ ns rest are a w.0.0

target_no_not : (t : RawTarget) (L : Rest) (x : Symbol) (xs : List Symbol) → x.sign ≡ word (codes "not") → TargetThen t L (x ∷ xs) → ⊥
target_no_not (handler c) L x xs e a = call_no_keyword c (codes "not") refl L (λ ys. Unit {0}) (x ∷ xs) a (e, tt)
target_no_not restart L x xs e a = two_words (codes "restart") (codes "not") refl refl L (λ ys. Unit {0}) (x ∷ xs) a (e, tt)
target_no_not done L x xs e a = two_words (codes "done") (codes "not") refl refl L (λ ys. Unit {0}) (x ∷ xs) a (e, tt)
target_no_not (block raw) L x xs e a = let f : mark OpenBrace ≡ word (codes "not") = sym a.0 ∙ e in cc

statement_nots : (s : RawStatement) (n : ℕ) (L : Rest) (x : Symbol) (ns rest : List Symbol) → AreNots (x ∷ ns) → StatementThen s L (x ∷ (ns ++ rest)) → StatementWithin n s → length (x ∷ ns) ≤ n
statement_nots (act t) n L x ns rest are a w = absurd (target_no_not t L x (ns ++ rest) are.0 a)
statement_nots (when p t) n L x ns rest are a w = predicate_nots p n _ (x ∷ ns) rest are a w.0
statement_nots (when_else p t s) n L x ns rest are a w = predicate_nots p n _ (x ∷ ns) rest are a w.0

list_nots : (raw : RawList) (n : ℕ) (x : Symbol) (ns rest : List Symbol) → AreNots (x ∷ ns) → ListThen raw AtEnd (x ∷ (ns ++ rest)) → ListWithin n raw → length (x ∷ ns) ≤ n
list_nots none n x ns rest are (inl a) w = absurd cc
list_nots none n x ns rest are (inr a) w = absurd (let f : true ≡ false = sym (is_separator x.sign a.0) ∙ ap separates are.0 in cc)
list_nots (more s raw) n x ns rest are a w = at_front (list_after s raw AtEnd (x ∷ (ns ++ rest)) a)
  where
    at_front : SeparatorsThen (StatementThen s (After (ends_in_brace s) raw AtEnd)) (x ∷ (ns ++ rest)) → length (x ∷ ns) ≤ n
    at_front (inl b) = statement_nots s n _ x ns rest are b w.0
    at_front (inr b) = absurd (let f : true ≡ false = sym (is_separator x.sign b.0) ∙ ap separates are.0 in cc)

-- 33 times `not`, and then `true -> done`
abbrev deep_tokens : List Token
deep_tokens = record { kind = Word; from = 0; to = 3 } ∷ record { kind = Word; from = 4; to = 7 } ∷ record { kind = Word; from = 8; to = 11 } ∷ record { kind = Word; from = 12; to = 15 } ∷ record { kind = Word; from = 16; to = 19 } ∷ record { kind = Word; from = 20; to = 23 } ∷ record { kind = Word; from = 24; to = 27 } ∷ record { kind = Word; from = 28; to = 31 } ∷ record { kind = Word; from = 32; to = 35 } ∷ record { kind = Word; from = 36; to = 39 } ∷ record { kind = Word; from = 40; to = 43 } ∷ record { kind = Word; from = 44; to = 47 } ∷ record { kind = Word; from = 48; to = 51 } ∷ record { kind = Word; from = 52; to = 55 } ∷ record { kind = Word; from = 56; to = 59 } ∷ record { kind = Word; from = 60; to = 63 } ∷ record { kind = Word; from = 64; to = 67 } ∷ record { kind = Word; from = 68; to = 71 } ∷ record { kind = Word; from = 72; to = 75 } ∷ record { kind = Word; from = 76; to = 79 } ∷ record { kind = Word; from = 80; to = 83 } ∷ record { kind = Word; from = 84; to = 87 } ∷ record { kind = Word; from = 88; to = 91 } ∷ record { kind = Word; from = 92; to = 95 } ∷ record { kind = Word; from = 96; to = 99 } ∷ record { kind = Word; from = 100; to = 103 } ∷ record { kind = Word; from = 104; to = 107 } ∷ record { kind = Word; from = 108; to = 111 } ∷ record { kind = Word; from = 112; to = 115 } ∷ record { kind = Word; from = 116; to = 119 } ∷ record { kind = Word; from = 120; to = 123 } ∷ record { kind = Word; from = 124; to = 127 } ∷ record { kind = Word; from = 128; to = 131 } ∷ record { kind = Word; from = 132; to = 136 } ∷ record { kind = Arrow; from = 137; to = 139 } ∷ record { kind = Word; from = 140; to = 144 } ∷ []

abbrev deep_text : List ℕ
deep_text = (codes "not not not not not not not not not not not not not not not not not not not not not not not not not not not not not not not not not true -> done")

deep_cuts : Cuts deep_text deep_tokens
unfolding encode
deep_cuts = record { short = omega arith; utf8 = (deep_text, (refl, refl)); whole = ([], (codes "not"), (codes " not not not not not not not not not not not not not not not not not not not not not not not not not not not not not not not not true -> done"), refl, refl, refl, refl, (omega arith, refl, refl), ((codes " "), (codes "not"), (codes " not not not not not not not not not not not not not not not not not not not not not not not not not not not not not not not true -> done"), refl, refl, refl, refl, (omega arith, refl, refl), ((codes " "), (codes "not"), (codes " not not not not not not not not not not not not not not not not not not not not not not not not not not not not not not true -> done"), refl, refl, refl, refl, (omega arith, refl, refl), ((codes " "), (codes "not"), (codes " not not not not not not not not not not not not not not not not not not not not not not not not not not not not not true -> done"), refl, refl, refl, refl, (omega arith, refl, refl), ((codes " "), (codes "not"), (codes " not not not not not not not not not not not not not not not not not not not not not not not not not not not not true -> done"), refl, refl, refl, refl, (omega arith, refl, refl), ((codes " "), (codes "not"), (codes " not not not not not not not not not not not not not not not not not not not not not not not not not not not true -> done"), refl, refl, refl, refl, (omega arith, refl, refl), ((codes " "), (codes "not"), (codes " not not not not not not not not not not not not not not not not not not not not not not not not not not true -> done"), refl, refl, refl, refl, (omega arith, refl, refl), ((codes " "), (codes "not"), (codes " not not not not not not not not not not not not not not not not not not not not not not not not not true -> done"), refl, refl, refl, refl, (omega arith, refl, refl), ((codes " "), (codes "not"), (codes " not not not not not not not not not not not not not not not not not not not not not not not not true -> done"), refl, refl, refl, refl, (omega arith, refl, refl), ((codes " "), (codes "not"), (codes " not not not not not not not not not not not not not not not not not not not not not not not true -> done"), refl, refl, refl, refl, (omega arith, refl, refl), ((codes " "), (codes "not"), (codes " not not not not not not not not not not not not not not not not not not not not not not true -> done"), refl, refl, refl, refl, (omega arith, refl, refl), ((codes " "), (codes "not"), (codes " not not not not not not not not not not not not not not not not not not not not not true -> done"), refl, refl, refl, refl, (omega arith, refl, refl), ((codes " "), (codes "not"), (codes " not not not not not not not not not not not not not not not not not not not not true -> done"), refl, refl, refl, refl, (omega arith, refl, refl), ((codes " "), (codes "not"), (codes " not not not not not not not not not not not not not not not not not not not true -> done"), refl, refl, refl, refl, (omega arith, refl, refl), ((codes " "), (codes "not"), (codes " not not not not not not not not not not not not not not not not not not true -> done"), refl, refl, refl, refl, (omega arith, refl, refl), ((codes " "), (codes "not"), (codes " not not not not not not not not not not not not not not not not not true -> done"), refl, refl, refl, refl, (omega arith, refl, refl), ((codes " "), (codes "not"), (codes " not not not not not not not not not not not not not not not not true -> done"), refl, refl, refl, refl, (omega arith, refl, refl), ((codes " "), (codes "not"), (codes " not not not not not not not not not not not not not not not true -> done"), refl, refl, refl, refl, (omega arith, refl, refl), ((codes " "), (codes "not"), (codes " not not not not not not not not not not not not not not true -> done"), refl, refl, refl, refl, (omega arith, refl, refl), ((codes " "), (codes "not"), (codes " not not not not not not not not not not not not not true -> done"), refl, refl, refl, refl, (omega arith, refl, refl), ((codes " "), (codes "not"), (codes " not not not not not not not not not not not not true -> done"), refl, refl, refl, refl, (omega arith, refl, refl), ((codes " "), (codes "not"), (codes " not not not not not not not not not not not true -> done"), refl, refl, refl, refl, (omega arith, refl, refl), ((codes " "), (codes "not"), (codes " not not not not not not not not not not true -> done"), refl, refl, refl, refl, (omega arith, refl, refl), ((codes " "), (codes "not"), (codes " not not not not not not not not not true -> done"), refl, refl, refl, refl, (omega arith, refl, refl), ((codes " "), (codes "not"), (codes " not not not not not not not not true -> done"), refl, refl, refl, refl, (omega arith, refl, refl), ((codes " "), (codes "not"), (codes " not not not not not not not true -> done"), refl, refl, refl, refl, (omega arith, refl, refl), ((codes " "), (codes "not"), (codes " not not not not not not true -> done"), refl, refl, refl, refl, (omega arith, refl, refl), ((codes " "), (codes "not"), (codes " not not not not not true -> done"), refl, refl, refl, refl, (omega arith, refl, refl), ((codes " "), (codes "not"), (codes " not not not not true -> done"), refl, refl, refl, refl, (omega arith, refl, refl), ((codes " "), (codes "not"), (codes " not not not true -> done"), refl, refl, refl, refl, (omega arith, refl, refl), ((codes " "), (codes "not"), (codes " not not true -> done"), refl, refl, refl, refl, (omega arith, refl, refl), ((codes " "), (codes "not"), (codes " not true -> done"), refl, refl, refl, refl, (omega arith, refl, refl), ((codes " "), (codes "not"), (codes " true -> done"), refl, refl, refl, refl, (omega arith, refl, refl), ((codes " "), (codes "true"), (codes " -> done"), refl, refl, refl, refl, (omega arith, refl, refl), ((codes " "), (codes "->"), (codes " done"), refl, refl, refl, refl, refl, ((codes " "), (codes "done"), [], refl, refl, refl, refl, (omega arith, refl, refl), ([], refl, refl))))))))))))))))))))))))))))))))))))) }

deep_nots : AreNots (take 33 (symbols_of deep_text deep_tokens))
deep_nots = (refl, (refl, (refl, (refl, (refl, (refl, (refl, (refl, (refl, (refl, (refl, (refl, (refl, (refl, (refl, (refl, (refl, (refl, (refl, (refl, (refl, (refl, (refl, (refl, (refl, (refl, (refl, (refl, (refl, (refl, (refl, (refl, (refl, tt)))))))))))))))))))))))))))))))))

too_many : (raw : RawList) (rest : List Symbol) → IsList 32 (take 33 (symbols_of deep_text deep_tokens) ++ rest) raw → ⊥
too_many raw rest is =
    let first : Symbol = record { sign = word (codes "not"); place = 0 } in
    let e : 33 ≤ 32 = list_nots raw 32 first (drop 1 (take 33 (symbols_of deep_text deep_tokens))) (joined 0 rest) deep_nots is.1 is.0 in omega (arith, e)

deep_stops : IsTooDeep 32 (symbols_of deep_text deep_tokens) 32
deep_stops = record {
  before = (record { sign = word (codes "true"); place = 128 } ∷ record { sign = mark Arrow; place = 133 } ∷ record { sign = word (codes "done"); place = 136 } ∷ [], more (when (alone (single (negated (negated (negated (negated (negated (negated (negated (negated (negated (negated (negated (negated (negated (negated (negated (negated (negated (negated (negated (negated (negated (negated (negated (negated (negated (negated (negated (negated (negated (negated (negated (negated (test (record { name = record { bytes = (codes "true"); place = 128 }; parameters = unnamed [] })))))))))))))))))))))))))))))))))))) (done)) (none), ((((omega arith, (omega arith, (omega arith, (omega arith, (omega arith, (omega arith, (omega arith, (omega arith, (omega arith, (omega arith, (omega arith, (omega arith, (omega arith, (omega arith, (omega arith, (omega arith, (omega arith, (omega arith, (omega arith, (omega arith, (omega arith, (omega arith, (omega arith, (omega arith, (omega arith, (omega arith, (omega arith, (omega arith, (omega arith, (omega arith, (omega arith, (omega arith, tt)))))))))))))))))))))))))))))))), tt), tt), inl (refl, (refl, (refl, (refl, (refl, (refl, (refl, (refl, (refl, (refl, (refl, (refl, (refl, (refl, (refl, (refl, (refl, (refl, (refl, (refl, (refl, (refl, (refl, (refl, (refl, (refl, (refl, (refl, (refl, (refl, (refl, (refl, (refl, (refl, refl, inl (refl, (refl, (refl, refl)))))))))))))))))))))))))))))))))))))));
  deeper = (record { sign = word (codes "true"); place = 132 } ∷ record { sign = mark Arrow; place = 137 } ∷ record { sign = word (codes "done"); place = 140 } ∷ [], more (when (alone (single (negated (negated (negated (negated (negated (negated (negated (negated (negated (negated (negated (negated (negated (negated (negated (negated (negated (negated (negated (negated (negated (negated (negated (negated (negated (negated (negated (negated (negated (negated (negated (negated (negated (test (record { name = record { bytes = (codes "true"); place = 132 }; parameters = unnamed [] }))))))))))))))))))))))))))))))))))))) (done)) (none), ((((omega arith, (omega arith, (omega arith, (omega arith, (omega arith, (omega arith, (omega arith, (omega arith, (omega arith, (omega arith, (omega arith, (omega arith, (omega arith, (omega arith, (omega arith, (omega arith, (omega arith, (omega arith, (omega arith, (omega arith, (omega arith, (omega arith, (omega arith, (omega arith, (omega arith, (omega arith, (omega arith, (omega arith, (omega arith, (omega arith, (omega arith, (omega arith, (omega arith, tt))))))))))))))))))))))))))))))))), tt), tt), inl (refl, (refl, (refl, (refl, (refl, (refl, (refl, (refl, (refl, (refl, (refl, (refl, (refl, (refl, (refl, (refl, (refl, (refl, (refl, (refl, (refl, (refl, (refl, (refl, (refl, (refl, (refl, (refl, (refl, (refl, (refl, (refl, (refl, (refl, (refl, refl, inl (refl, (refl, (refl, refl))))))))))))))))))))))))))))))))))))))));
  stops = λ (rest, raw, is). too_many raw rest is;
}

deep_fault : IsFault deep_text TooDeep 128
deep_fault = inr (inl (deep_tokens, 32, deep_cuts, (omega arith, deep_stops), refl))

deep_at : (line_of deep_text 128 ≡ 1) × (column_of deep_text 128 ≡ 129)
deep_at = (refl, refl)
