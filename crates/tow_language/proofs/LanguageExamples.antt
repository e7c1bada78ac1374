-- Texts with their trees and printed forms.
use Rattle.std.specs.Prelude.{◌≡◌, ◌≤◌, List, [], ◌∷◌, codes, Some, None}
use Rattle.std.proofs.Common.{refl, arith}
use mathlib.Core.Logic.{inl, inr}
use Rattle.tow_language.specs.declared.token.TokenKind.TheVariants.{Newline, Semi, Comma, Equals, OpenRound, CloseRound, OpenBrace, CloseBrace, Arrow, Quoted, Word}
use Rattle.tow_language.specs.declared.kind.Kind.TheVariants.{UnclosedQuote, UnclosedBrace, StrayByte, UnknownName, BadParameter, BadAttribute, BadTarget}
use Rattle.tow_model.specs.declared.statement.Statement.{Statement}
use Rattle.tow_model.specs.declared.statement.Statement.TheVariants.{When, Act, Block}
use Rattle.tow_model.specs.declared.predicate.Predicate.TheVariants.{Is, Not, Or}
use Rattle.tow_model.specs.declared.predicate.Test.TheVariants as tests
use Rattle.tow_model.specs.declared.action.Action.TheVariants as actions
use Rattle.tow_model.specs.declared.attribute.Piece.TheVariants.{Value}
use Rattle.tow_model.specs.declared.attribute.Attribute.TheVariants as attributes
use Rattle.tow_language.specs.Raw.{one, unnamed, named, alone, or_more, single, test, negated, grouped, handler, done, block, act, when, when_else, RawList, none, more}
use Rattle.tow_language.specs.Syntax.{Reads}
use Rattle.tow_language.specs.Fit.{Fits}
use Rattle.tow_language.specs.Fault.{IsFault, line_of, column_of}
use Rattle.tow_language.specs.Printed.{print_of}
use Rattle.std.specs.Fmt.{digits}
use Rattle.std.specs.Str.Lossy.{utf8_valid_len}
use Rattle.std.proofs.lemmas.Str.{utf8_valid_len-IsUtf8}
use lib.Utf8.{encode}
use Rattle.tow_language.proofs.Kept.{quote_fault, stray_fault, brace_fault}
use Rattle.tow_language.proofs.Folds.{at_is, at_not, at_and, at_or, of_act, of_block, of_when, of_else}

ruleset layers = (at_is, at_not, at_and, at_or, of_act, of_block, of_when, of_else)

--
abbrev empty_raw : RawList
empty_raw = none

empty_reads : Reads [] empty_raw
unfolding encode
empty_reads = ([], record { short = omega arith; utf8 = ([], (refl, refl)); whole = ([], refl, refl) }, (tt, refl))

abbrev empty_tree : List Statement
empty_tree = []

empty_fits : Fits empty_raw empty_tree
empty_fits = (_, refl)

empty_prints : print_of empty_tree ≡ []
unfolding digits
empty_prints = refl

-- path("/a")->done
abbrev check_print_raw : RawList
check_print_raw = more (when (alone (single (test (record { name = record { bytes = (codes "path"); place = 0 }; parameters = unnamed ((one (record { bytes = (codes "/a"); place = 5 })) ∷ []) })))) (done)) (none)

check_print_reads : Reads (codes "path(\"/a\")->done") check_print_raw
unfolding encode
check_print_reads = (record { kind = Word; from = 0; to = 4 } ∷ record { kind = OpenRound; from = 4; to = 5 } ∷ record { kind = Quoted; from = 5; to = 9 } ∷ record { kind = CloseRound; from = 9; to = 10 } ∷ record { kind = Arrow; from = 10; to = 12 } ∷ record { kind = Word; from = 12; to = 16 } ∷ [], record { short = omega arith; utf8 = ((codes "path(\"/a\")->done"), (refl, refl)); whole = ([], (codes "path"), (codes "(\"/a\")->done"), refl, refl, refl, refl, (omega arith, refl, refl), ([], (codes "("), (codes "\"/a\")->done"), refl, refl, refl, refl, refl, ([], (codes "\"/a\""), (codes ")->done"), refl, refl, refl, refl, (34, (codes "/a"), refl, refl, refl, refl), ([], (codes ")"), (codes "->done"), refl, refl, refl, refl, refl, ([], (codes "->"), (codes "done"), refl, refl, refl, refl, refl, ([], (codes "done"), [], refl, refl, refl, refl, (omega arith, refl, refl), ([], refl, refl))))))) }, (((tt, tt), tt), inl (refl, (refl, refl, inr (inl (refl, inr (refl, refl, (refl, (refl, (refl, refl))))))))))

abbrev check_print_tree : List Statement
check_print_tree = When (Is (tests.Path (codes "/a" ∷ []))) (Act actions.Done) None ∷ []

check_print_fits : Fits check_print_raw check_print_tree
check_print_fits = (_, refl)

check_print_prints : print_of check_print_tree ≡ (112 ∷ 97 ∷ 116 ∷ 104 ∷ 40 ∷ 112 ∷ 97 ∷ 116 ∷ 104 ∷ 61 ∷ 123 ∷ 47 ∷ 97 ∷ 125 ∷ 41 ∷ 32 ∷ 45 ∷ 62 ∷ 32 ∷ 100 ∷ 111 ∷ 110 ∷ 101 ∷ 10 ∷ [])
unfolding digits
check_print_prints = simp layers refl

-- path-prefix('/a b\/')->done
abbrev check_prefix_raw : RawList
check_prefix_raw = more (when (alone (single (test (record { name = record { bytes = (codes "path-prefix"); place = 0 }; parameters = unnamed ((one (record { bytes = (codes "/a b\\/"); place = 12 })) ∷ []) })))) (done)) (none)

check_prefix_reads : Reads (codes "path-prefix('/a b\\/')->done") check_prefix_raw
unfolding encode
check_prefix_reads = (record { kind = Word; from = 0; to = 11 } ∷ record { kind = OpenRound; from = 11; to = 12 } ∷ record { kind = Quoted; from = 12; to = 20 } ∷ record { kind = CloseRound; from = 20; to = 21 } ∷ record { kind = Arrow; from = 21; to = 23 } ∷ record { kind = Word; from = 23; to = 27 } ∷ [], record { short = omega arith; utf8 = ((codes "path-prefix('/a b\\/')->done"), (refl, refl)); whole = ([], (codes "path-prefix"), (codes "('/a b\\/')->done"), refl, refl, refl, refl, (omega arith, refl, refl), ([], (codes "("), (codes "'/a b\\/')->done"), refl, refl, refl, refl, refl, ([], (codes "'/a b\\/'"), (codes ")->done"), refl, refl, refl, refl, (39, (codes "/a b\\/"), refl, refl, refl, refl), ([], (codes ")"), (codes "->done"), refl, refl, refl, refl, refl, ([], (codes "->"), (codes "done"), refl, refl, refl, refl, refl, ([], (codes "done"), [], refl, refl, refl, refl, (omega arith, refl, refl), ([], refl, refl))))))) }, (((tt, tt), tt), inl (refl, (refl, refl, inr (inl (refl, inr (refl, refl, (refl, (refl, (refl, refl))))))))))

abbrev check_prefix_tree : List Statement
check_prefix_tree = When (Is (tests.Prefix (codes "/a b\\" ∷ []))) (Act actions.Done) None ∷ []

check_prefix_fits : Fits check_prefix_raw check_prefix_tree
check_prefix_fits = (_, refl)

check_prefix_prints : print_of check_prefix_tree ≡ (112 ∷ 97 ∷ 116 ∷ 104 ∷ 45 ∷ 112 ∷ 114 ∷ 101 ∷ 102 ∷ 105 ∷ 120 ∷ 40 ∷ 112 ∷ 97 ∷ 116 ∷ 104 ∷ 61 ∷ 123 ∷ 39 ∷ 47 ∷ 97 ∷ 32 ∷ 98 ∷ 92 ∷ 47 ∷ 39 ∷ 125 ∷ 41 ∷ 32 ∷ 45 ∷ 62 ∷ 32 ∷ 100 ∷ 111 ∷ 110 ∷ 101 ∷ 10 ∷ [])
unfolding digits
check_prefix_prints = simp layers refl

-- not(true or false)->{}else done
abbrev levels_else_raw : RawList
levels_else_raw = more (when_else (alone (single (negated (grouped (or_more (single (test (record { name = record { bytes = (codes "true"); place = 4 }; parameters = unnamed [] }))) (alone (single (test (record { name = record { bytes = (codes "false"); place = 12 }; parameters = unnamed [] }))))))))) (block (none)) (act (done))) (none)

levels_else_reads : Reads (codes "not(true or false)->{}else done") levels_else_raw
unfolding encode
levels_else_reads = (record { kind = Word; from = 0; to = 3 } ∷ record { kind = OpenRound; from = 3; to = 4 } ∷ record { kind = Word; from = 4; to = 8 } ∷ record { kind = Word; from = 9; to = 11 } ∷ record { kind = Word; from = 12; to = 17 } ∷ record { kind = CloseRound; from = 17; to = 18 } ∷ record { kind = Arrow; from = 18; to = 20 } ∷ record { kind = OpenBrace; from = 20; to = 21 } ∷ record { kind = CloseBrace; from = 21; to = 22 } ∷ record { kind = Word; from = 22; to = 26 } ∷ record { kind = Word; from = 27; to = 31 } ∷ [], record { short = omega arith; utf8 = ((codes "not(true or false)->{}else done"), (refl, refl)); whole = ([], (codes "not"), (codes "(true or false)->{}else done"), refl, refl, refl, refl, (omega arith, refl, refl), ([], (codes "("), (codes "true or false)->{}else done"), refl, refl, refl, refl, refl, ([], (codes "true"), (codes " or false)->{}else done"), refl, refl, refl, refl, (omega arith, refl, refl), ((codes " "), (codes "or"), (codes " false)->{}else done"), refl, refl, refl, refl, (omega arith, refl, refl), ((codes " "), (codes "false"), (codes ")->{}else done"), refl, refl, refl, refl, (omega arith, refl, refl), ([], (codes ")"), (codes "->{}else done"), refl, refl, refl, refl, refl, ([], (codes "->"), (codes "{}else done"), refl, refl, refl, refl, refl, ([], (codes "{"), (codes "}else done"), refl, refl, refl, refl, refl, ([], (codes "}"), (codes "else done"), refl, refl, refl, refl, refl, ([], (codes "else"), (codes " done"), refl, refl, refl, refl, (omega arith, refl, refl), ((codes " "), (codes "done"), [], refl, refl, refl, refl, (omega arith, refl, refl), ([], refl, refl)))))))))))) }, ((((omega arith, (omega arith, (tt, tt))), (omega arith, tt), omega arith, tt), tt), inl (refl, (refl, (refl, (refl, refl, inl (refl, (refl, (refl, (refl, refl, inl (refl, (refl, (refl, (refl, inl (refl, inl (refl, inl (refl, refl)))))))))))))))))

abbrev levels_else_tree : List Statement
levels_else_tree = When (Not (Or (Is tests.True) (Is tests.False))) (Block []) (Some (Act actions.Done)) ∷ []

levels_else_fits : Fits levels_else_raw levels_else_tree
levels_else_fits = (_, refl)

levels_else_prints : print_of levels_else_tree ≡ (110 ∷ 111 ∷ 116 ∷ 32 ∷ 40 ∷ 116 ∷ 114 ∷ 117 ∷ 101 ∷ 32 ∷ 111 ∷ 114 ∷ 32 ∷ 102 ∷ 97 ∷ 108 ∷ 115 ∷ 101 ∷ 41 ∷ 32 ∷ 45 ∷ 62 ∷ 32 ∷ 123 ∷ 32 ∷ 125 ∷ 32 ∷ 101 ∷ 108 ∷ 115 ∷ 101 ∷ 32 ∷ 100 ∷ 111 ∷ 110 ∷ 101 ∷ 10 ∷ [])
unfolding digits
levels_else_prints = simp layers refl

-- path('/hi') -> response-code(204)
abbrev hi_raw : RawList
hi_raw = more (when (alone (single (test (record { name = record { bytes = (codes "path"); place = 0 }; parameters = unnamed ((one (record { bytes = (codes "/hi"); place = 5 })) ∷ []) })))) (handler (record { name = record { bytes = (codes "response-code"); place = 15 }; parameters = unnamed ((one (record { bytes = (codes "204"); place = 29 })) ∷ []) }))) (none)

hi_reads : Reads (codes "path('/hi') -> response-code(204)") hi_raw
unfolding encode
hi_reads = (record { kind = Word; from = 0; to = 4 } ∷ record { kind = OpenRound; from = 4; to = 5 } ∷ record { kind = Quoted; from = 5; to = 10 } ∷ record { kind = CloseRound; from = 10; to = 11 } ∷ record { kind = Arrow; from = 12; to = 14 } ∷ record { kind = Word; from = 15; to = 28 } ∷ record { kind = OpenRound; from = 28; to = 29 } ∷ record { kind = Word; from = 29; to = 32 } ∷ record { kind = CloseRound; from = 32; to = 33 } ∷ [], record { short = omega arith; utf8 = ((codes "path('/hi') -> response-code(204)"), (refl, refl)); whole = ([], (codes "path"), (codes "('/hi') -> response-code(204)"), refl, refl, refl, refl, (omega arith, refl, refl), ([], (codes "("), (codes "'/hi') -> response-code(204)"), refl, refl, refl, refl, refl, ([], (codes "'/hi'"), (codes ") -> response-code(204)"), refl, refl, refl, refl, (39, (codes "/hi"), refl, refl, refl, refl), ([], (codes ")"), (codes " -> response-code(204)"), refl, refl, refl, refl, refl, ((codes " "), (codes "->"), (codes " response-code(204)"), refl, refl, refl, refl, refl, ((codes " "), (codes "response-code"), (codes "(204)"), refl, refl, refl, refl, (omega arith, refl, refl), ([], (codes "("), (codes "204)"), refl, refl, refl, refl, refl, ([], (codes "204"), (codes ")"), refl, refl, refl, refl, (omega arith, refl, refl), ([], (codes ")"), [], refl, refl, refl, refl, refl, ([], refl, refl)))))))))) }, (((tt, tt), tt), inl (refl, (refl, refl, inr (inl (refl, inr (refl, refl, (refl, (refl, (refl, (refl, refl, inr (inl (refl, inl (refl, refl, (refl, refl)))))))))))))))

abbrev hi_tree : List Statement
hi_tree = When (Is (tests.Path (codes "/hi" ∷ []))) (Act (actions.ResponseCode 204)) None ∷ []

hi_fits : Fits hi_raw hi_tree
hi_fits = (_, refl)

hi_prints : print_of hi_tree ≡ (112 ∷ 97 ∷ 116 ∷ 104 ∷ 40 ∷ 112 ∷ 97 ∷ 116 ∷ 104 ∷ 61 ∷ 123 ∷ 47 ∷ 104 ∷ 105 ∷ 125 ∷ 41 ∷ 32 ∷ 45 ∷ 62 ∷ 32 ∷ 114 ∷ 101 ∷ 115 ∷ 112 ∷ 111 ∷ 110 ∷ 115 ∷ 101 ∷ 45 ∷ 99 ∷ 111 ∷ 100 ∷ 101 ∷ 40 ∷ 118 ∷ 97 ∷ 108 ∷ 117 ∷ 101 ∷ 61 ∷ 50 ∷ 48 ∷ 52 ∷ 41 ∷ 10 ∷ [])
unfolding digits
hi_prints = simp layers refl

-- regex(a) -> done
abbrev migrated_raw : RawList
migrated_raw = more (when (alone (single (test (record { name = record { bytes = (codes "regex"); place = 0 }; parameters = unnamed ((one (record { bytes = (codes "a"); place = 6 })) ∷ []) })))) (done)) (none)

migrated_reads : Reads (codes "regex(a) -> done") migrated_raw
unfolding encode
migrated_reads = (record { kind = Word; from = 0; to = 5 } ∷ record { kind = OpenRound; from = 5; to = 6 } ∷ record { kind = Word; from = 6; to = 7 } ∷ record { kind = CloseRound; from = 7; to = 8 } ∷ record { kind = Arrow; from = 9; to = 11 } ∷ record { kind = Word; from = 12; to = 16 } ∷ [], record { short = omega arith; utf8 = ((codes "regex(a) -> done"), (refl, refl)); whole = ([], (codes "regex"), (codes "(a) -> done"), refl, refl, refl, refl, (omega arith, refl, refl), ([], (codes "("), (codes "a) -> done"), refl, refl, refl, refl, refl, ([], (codes "a"), (codes ") -> done"), refl, refl, refl, refl, (omega arith, refl, refl), ([], (codes ")"), (codes " -> done"), refl, refl, refl, refl, refl, ((codes " "), (codes "->"), (codes " done"), refl, refl, refl, refl, refl, ((codes " "), (codes "done"), [], refl, refl, refl, refl, (omega arith, refl, refl), ([], refl, refl))))))) }, (((tt, tt), tt), inl (refl, (refl, refl, inr (inl (refl, inl (refl, refl, (refl, (refl, (refl, refl))))))))))

abbrev migrated_tree : List Statement
migrated_tree = When (Is (tests.Regex 0 (codes "a") (Value attributes.RelativePath ∷ []))) (Act actions.Done) None ∷ []

migrated_fits : Fits migrated_raw migrated_tree
migrated_fits = (_, refl)

migrated_prints : print_of migrated_tree ≡ (114 ∷ 101 ∷ 103 ∷ 101 ∷ 120 ∷ 40 ∷ 112 ∷ 97 ∷ 116 ∷ 116 ∷ 101 ∷ 114 ∷ 110 ∷ 61 ∷ 97 ∷ 44 ∷ 32 ∷ 118 ∷ 97 ∷ 108 ∷ 117 ∷ 101 ∷ 61 ∷ 37 ∷ 82 ∷ 41 ∷ 32 ∷ 45 ∷ 62 ∷ 32 ∷ 100 ∷ 111 ∷ 110 ∷ 101 ∷ 10 ∷ [])
unfolding digits
migrated_prints = simp layers refl

-- nosuch(1)
abbrev unknown_raw : RawList
unknown_raw = more (act (handler (record { name = record { bytes = (codes "nosuch"); place = 0 }; parameters = unnamed ((one (record { bytes = (codes "1"); place = 7 })) ∷ []) }))) (none)

unknown_reads : Reads (codes "nosuch(1)") unknown_raw
unfolding encode
unknown_reads = (record { kind = Word; from = 0; to = 6 } ∷ record { kind = OpenRound; from = 6; to = 7 } ∷ record { kind = Word; from = 7; to = 8 } ∷ record { kind = CloseRound; from = 8; to = 9 } ∷ [], record { short = omega arith; utf8 = ((codes "nosuch(1)"), (refl, refl)); whole = ([], (codes "nosuch"), (codes "(1)"), refl, refl, refl, refl, (omega arith, refl, refl), ([], (codes "("), (codes "1)"), refl, refl, refl, refl, refl, ([], (codes "1"), (codes ")"), refl, refl, refl, refl, (omega arith, refl, refl), ([], (codes ")"), [], refl, refl, refl, refl, refl, ([], refl, refl))))) }, ((tt, tt), inl (refl, (refl, refl, inr (inl (refl, inl (refl, refl, (refl, refl))))))))

unknown_fault : IsFault (codes "nosuch(1)") UnknownName 0
unknown_fault = inr (inr (unknown_raw, unknown_reads, refl))

unknown_at : (line_of (codes "nosuch(1)") 0 ≡ 1) × (column_of (codes "nosuch(1)") 0 ≡ 1)
unknown_at = (refl, refl)

-- set(attribute='%{o,content-length}', value=1)
abbrev kept_field_raw : RawList
kept_field_raw = more (act (handler (record { name = record { bytes = (codes "set"); place = 0 }; parameters = named ((record { bytes = (codes "attribute"); place = 4 }, one (record { bytes = (codes "%{o,content-length}"); place = 14 })) ∷ (record { bytes = (codes "value"); place = 37 }, one (record { bytes = (codes "1"); place = 43 })) ∷ []) }))) (none)

kept_field_reads : Reads (codes "set(attribute='%{o,content-length}', value=1)") kept_field_raw
unfolding encode
kept_field_reads = (record { kind = Word; from = 0; to = 3 } ∷ record { kind = OpenRound; from = 3; to = 4 } ∷ record { kind = Word; from = 4; to = 13 } ∷ record { kind = Equals; from = 13; to = 14 } ∷ record { kind = Quoted; from = 14; to = 35 } ∷ record { kind = Comma; from = 35; to = 36 } ∷ record { kind = Word; from = 37; to = 42 } ∷ record { kind = Equals; from = 42; to = 43 } ∷ record { kind = Word; from = 43; to = 44 } ∷ record { kind = CloseRound; from = 44; to = 45 } ∷ [], record { short = omega arith; utf8 = ((codes "set(attribute='%{o,content-length}', value=1)"), (refl, refl)); whole = ([], (codes "set"), (codes "(attribute='%{o,content-length}', value=1)"), refl, refl, refl, refl, (omega arith, refl, refl), ([], (codes "("), (codes "attribute='%{o,content-length}', value=1)"), refl, refl, refl, refl, refl, ([], (codes "attribute"), (codes "='%{o,content-length}', value=1)"), refl, refl, refl, refl, (omega arith, refl, refl), ([], (codes "="), (codes "'%{o,content-length}', value=1)"), refl, refl, refl, refl, refl, ([], (codes "'%{o,content-length}'"), (codes ", value=1)"), refl, refl, refl, refl, (39, (codes "%{o,content-length}"), refl, refl, refl, refl), ([], (codes ","), (codes " value=1)"), refl, refl, refl, refl, refl, ((codes " "), (codes "value"), (codes "=1)"), refl, refl, refl, refl, (omega arith, refl, refl), ([], (codes "="), (codes "1)"), refl, refl, refl, refl, refl, ([], (codes "1"), (codes ")"), refl, refl, refl, refl, (omega arith, refl, refl), ([], (codes ")"), [], refl, refl, refl, refl, refl, ([], refl, refl))))))))))) }, ((tt, tt), inl (refl, (refl, refl, inr (inl (refl, (refl, refl, (refl, inr (refl, refl, (refl, (refl, refl, (refl, inl (refl, refl, (refl, refl))))))))))))))

kept_field_fault : IsFault (codes "set(attribute='%{o,content-length}', value=1)") BadTarget 14
kept_field_fault = inr (inr (kept_field_raw, kept_field_reads, refl))

kept_field_at : (line_of (codes "set(attribute='%{o,content-length}', value=1)") 14 ≡ 1) × (column_of (codes "set(attribute='%{o,content-length}', value=1)") 14 ≡ 15)
kept_field_at = (refl, refl)

-- path(/a) -> done; true
abbrev not_a_handler_raw : RawList
not_a_handler_raw = more (when (alone (single (test (record { name = record { bytes = (codes "path"); place = 0 }; parameters = unnamed ((one (record { bytes = (codes "/a"); place = 5 })) ∷ []) })))) (done)) (more (act (handler (record { name = record { bytes = (codes "true"); place = 18 }; parameters = unnamed [] }))) (none))

not_a_handler_reads : Reads (codes "path(/a) -> done; true") not_a_handler_raw
unfolding encode
not_a_handler_reads = (record { kind = Word; from = 0; to = 4 } ∷ record { kind = OpenRound; from = 4; to = 5 } ∷ record { kind = Word; from = 5; to = 7 } ∷ record { kind = CloseRound; from = 7; to = 8 } ∷ record { kind = Arrow; from = 9; to = 11 } ∷ record { kind = Word; from = 12; to = 16 } ∷ record { kind = Semi; from = 16; to = 17 } ∷ record { kind = Word; from = 18; to = 22 } ∷ [], record { short = omega arith; utf8 = ((codes "path(/a) -> done; true"), (refl, refl)); whole = ([], (codes "path"), (codes "(/a) -> done; true"), refl, refl, refl, refl, (omega arith, refl, refl), ([], (codes "("), (codes "/a) -> done; true"), refl, refl, refl, refl, refl, ([], (codes "/a"), (codes ") -> done; true"), refl, refl, refl, refl, (omega arith, refl, refl), ([], (codes ")"), (codes " -> done; true"), refl, refl, refl, refl, refl, ((codes " "), (codes "->"), (codes " done; true"), refl, refl, refl, refl, refl, ((codes " "), (codes "done"), (codes "; true"), refl, refl, refl, refl, (omega arith, refl, refl), ([], (codes ";"), (codes " true"), refl, refl, refl, refl, refl, ((codes " "), (codes "true"), [], refl, refl, refl, refl, (omega arith, refl, refl), ([], refl, refl))))))))) }, (((tt, tt), (tt, tt)), inl (refl, (refl, refl, inr (inl (refl, inl (refl, refl, (refl, (refl, (refl, inr (refl, inl (refl, (refl, refl, inl (refl, refl))))))))))))))

not_a_handler_fault : IsFault (codes "path(/a) -> done; true") UnknownName 18
not_a_handler_fault = inr (inr (not_a_handler_raw, not_a_handler_reads, refl))

not_a_handler_at : (line_of (codes "path(/a) -> done; true") 18 ≡ 1) × (column_of (codes "path(/a) -> done; true") 18 ≡ 19)
not_a_handler_at = (refl, refl)

-- clear('%m%q')
abbrev two_attributes_raw : RawList
two_attributes_raw = more (act (handler (record { name = record { bytes = (codes "clear"); place = 0 }; parameters = unnamed ((one (record { bytes = (codes "%m%q"); place = 6 })) ∷ []) }))) (none)

two_attributes_reads : Reads (codes "clear('%m%q')") two_attributes_raw
unfolding encode
two_attributes_reads = (record { kind = Word; from = 0; to = 5 } ∷ record { kind = OpenRound; from = 5; to = 6 } ∷ record { kind = Quoted; from = 6; to = 12 } ∷ record { kind = CloseRound; from = 12; to = 13 } ∷ [], record { short = omega arith; utf8 = ((codes "clear('%m%q')"), (refl, refl)); whole = ([], (codes "clear"), (codes "('%m%q')"), refl, refl, refl, refl, (omega arith, refl, refl), ([], (codes "("), (codes "'%m%q')"), refl, refl, refl, refl, refl, ([], (codes "'%m%q'"), (codes ")"), refl, refl, refl, refl, (39, (codes "%m%q"), refl, refl, refl, refl), ([], (codes ")"), [], refl, refl, refl, refl, refl, ([], refl, refl))))) }, ((tt, tt), inl (refl, (refl, refl, inr (inl (refl, inr (refl, refl, (refl, refl))))))))

two_attributes_fault : IsFault (codes "clear('%m%q')") BadParameter 6
two_attributes_fault = inr (inr (two_attributes_raw, two_attributes_reads, refl))

two_attributes_at : (line_of (codes "clear('%m%q')") 6 ≡ 1) × (column_of (codes "clear('%m%q')") 6 ≡ 7)
two_attributes_at = (refl, refl)

-- clear('%{x}%')
abbrev no_attribute_raw : RawList
no_attribute_raw = more (act (handler (record { name = record { bytes = (codes "clear"); place = 0 }; parameters = unnamed ((one (record { bytes = (codes "%{x}%"); place = 6 })) ∷ []) }))) (none)

no_attribute_reads : Reads (codes "clear('%{x}%')") no_attribute_raw
unfolding encode
no_attribute_reads = (record { kind = Word; from = 0; to = 5 } ∷ record { kind = OpenRound; from = 5; to = 6 } ∷ record { kind = Quoted; from = 6; to = 13 } ∷ record { kind = CloseRound; from = 13; to = 14 } ∷ [], record { short = omega arith; utf8 = ((codes "clear('%{x}%')"), (refl, refl)); whole = ([], (codes "clear"), (codes "('%{x}%')"), refl, refl, refl, refl, (omega arith, refl, refl), ([], (codes "("), (codes "'%{x}%')"), refl, refl, refl, refl, refl, ([], (codes "'%{x}%'"), (codes ")"), refl, refl, refl, refl, (39, (codes "%{x}%"), refl, refl, refl, refl), ([], (codes ")"), [], refl, refl, refl, refl, refl, ([], refl, refl))))) }, ((tt, tt), inl (refl, (refl, refl, inr (inl (refl, inr (refl, refl, (refl, refl))))))))

no_attribute_fault : IsFault (codes "clear('%{x}%')") BadAttribute 6
no_attribute_fault = inr (inr (no_attribute_raw, no_attribute_reads, refl))

no_attribute_at : (line_of (codes "clear('%{x}%')") 6 ≡ 1) × (column_of (codes "clear('%{x}%')") 6 ≡ 7)
no_attribute_at = (refl, refl)

-- redirect(a, b)
abbrev second_value_raw : RawList
second_value_raw = more (act (handler (record { name = record { bytes = (codes "redirect"); place = 0 }; parameters = unnamed ((one (record { bytes = (codes "a"); place = 9 })) ∷ (one (record { bytes = (codes "b"); place = 12 })) ∷ []) }))) (none)

second_value_reads : Reads (codes "redirect(a, b)") second_value_raw
unfolding encode
second_value_reads = (record { kind = Word; from = 0; to = 8 } ∷ record { kind = OpenRound; from = 8; to = 9 } ∷ record { kind = Word; from = 9; to = 10 } ∷ record { kind = Comma; from = 10; to = 11 } ∷ record { kind = Word; from = 12; to = 13 } ∷ record { kind = CloseRound; from = 13; to = 14 } ∷ [], record { short = omega arith; utf8 = ((codes "redirect(a, b)"), (refl, refl)); whole = ([], (codes "redirect"), (codes "(a, b)"), refl, refl, refl, refl, (omega arith, refl, refl), ([], (codes "("), (codes "a, b)"), refl, refl, refl, refl, refl, ([], (codes "a"), (codes ", b)"), refl, refl, refl, refl, (omega arith, refl, refl), ([], (codes ","), (codes " b)"), refl, refl, refl, refl, refl, ((codes " "), (codes "b"), (codes ")"), refl, refl, refl, refl, (omega arith, refl, refl), ([], (codes ")"), [], refl, refl, refl, refl, refl, ([], refl, refl))))))) }, ((tt, tt), inl (refl, (refl, refl, inr (inl (refl, inl (refl, refl, (refl, inl (refl, refl, (refl, refl))))))))))

second_value_fault : IsFault (codes "redirect(a, b)") BadParameter 12
second_value_fault = inr (inr (second_value_raw, second_value_reads, refl))

second_value_at : (line_of (codes "redirect(a, b)") 12 ≡ 1) × (column_of (codes "redirect(a, b)") 12 ≡ 13)
second_value_at = (refl, refl)

-- set(value=a)
abbrev missing_raw : RawList
missing_raw = more (act (handler (record { name = record { bytes = (codes "set"); place = 0 }; parameters = named ((record { bytes = (codes "value"); place = 4 }, one (record { bytes = (codes "a"); place = 10 })) ∷ []) }))) (none)

missing_reads : Reads (codes "set(value=a)") missing_raw
unfolding encode
missing_reads = (record { kind = Word; from = 0; to = 3 } ∷ record { kind = OpenRound; from = 3; to = 4 } ∷ record { kind = Word; from = 4; to = 9 } ∷ record { kind = Equals; from = 9; to = 10 } ∷ record { kind = Word; from = 10; to = 11 } ∷ record { kind = CloseRound; from = 11; to = 12 } ∷ [], record { short = omega arith; utf8 = ((codes "set(value=a)"), (refl, refl)); whole = ([], (codes "set"), (codes "(value=a)"), refl, refl, refl, refl, (omega arith, refl, refl), ([], (codes "("), (codes "value=a)"), refl, refl, refl, refl, refl, ([], (codes "value"), (codes "=a)"), refl, refl, refl, refl, (omega arith, refl, refl), ([], (codes "="), (codes "a)"), refl, refl, refl, refl, refl, ([], (codes "a"), (codes ")"), refl, refl, refl, refl, (omega arith, refl, refl), ([], (codes ")"), [], refl, refl, refl, refl, refl, ([], refl, refl))))))) }, ((tt, tt), inl (refl, (refl, refl, inr (inl (refl, (refl, refl, (refl, inl (refl, refl, (refl, refl))))))))))

missing_fault : IsFault (codes "set(value=a)") BadParameter 0
missing_fault = inr (inr (missing_raw, missing_reads, refl))

missing_at : (line_of (codes "set(value=a)") 0 ≡ 1) × (column_of (codes "set(value=a)") 0 ≡ 1)
missing_at = (refl, refl)

-- rewrite(value=a, value=b)
abbrev twice_raw : RawList
twice_raw = more (act (handler (record { name = record { bytes = (codes "rewrite"); place = 0 }; parameters = named ((record { bytes = (codes "value"); place = 8 }, one (record { bytes = (codes "a"); place = 14 })) ∷ (record { bytes = (codes "value"); place = 17 }, one (record { bytes = (codes "b"); place = 23 })) ∷ []) }))) (none)

twice_reads : Reads (codes "rewrite(value=a, value=b)") twice_raw
unfolding encode
twice_reads = (record { kind = Word; from = 0; to = 7 } ∷ record { kind = OpenRound; from = 7; to = 8 } ∷ record { kind = Word; from = 8; to = 13 } ∷ record { kind = Equals; from = 13; to = 14 } ∷ record { kind = Word; from = 14; to = 15 } ∷ record { kind = Comma; from = 15; to = 16 } ∷ record { kind = Word; from = 17; to = 22 } ∷ record { kind = Equals; from = 22; to = 23 } ∷ record { kind = Word; from = 23; to = 24 } ∷ record { kind = CloseRound; from = 24; to = 25 } ∷ [], record { short = omega arith; utf8 = ((codes "rewrite(value=a, value=b)"), (refl, refl)); whole = ([], (codes "rewrite"), (codes "(value=a, value=b)"), refl, refl, refl, refl, (omega arith, refl, refl), ([], (codes "("), (codes "value=a, value=b)"), refl, refl, refl, refl, refl, ([], (codes "value"), (codes "=a, value=b)"), refl, refl, refl, refl, (omega arith, refl, refl), ([], (codes "="), (codes "a, value=b)"), refl, refl, refl, refl, refl, ([], (codes "a"), (codes ", value=b)"), refl, refl, refl, refl, (omega arith, refl, refl), ([], (codes ","), (codes " value=b)"), refl, refl, refl, refl, refl, ((codes " "), (codes "value"), (codes "=b)"), refl, refl, refl, refl, (omega arith, refl, refl), ([], (codes "="), (codes "b)"), refl, refl, refl, refl, refl, ([], (codes "b"), (codes ")"), refl, refl, refl, refl, (omega arith, refl, refl), ([], (codes ")"), [], refl, refl, refl, refl, refl, ([], refl, refl))))))))))) }, ((tt, tt), inl (refl, (refl, refl, inr (inl (refl, (refl, refl, (refl, inl (refl, refl, (refl, (refl, refl, (refl, inl (refl, refl, (refl, refl))))))))))))))

twice_fault : IsFault (codes "rewrite(value=a, value=b)") BadParameter 17
twice_fault = inr (inr (twice_raw, twice_reads, refl))

twice_at : (line_of (codes "rewrite(value=a, value=b)") 17 ≡ 1) × (column_of (codes "rewrite(value=a, value=b)") 17 ≡ 18)
twice_at = (refl, refl)

-- response-code(205)
abbrev low_status_raw : RawList
low_status_raw = more (act (handler (record { name = record { bytes = (codes "response-code"); place = 0 }; parameters = unnamed ((one (record { bytes = (codes "205"); place = 14 })) ∷ []) }))) (none)

low_status_reads : Reads (codes "response-code(205)") low_status_raw
unfolding encode
low_status_reads = (record { kind = Word; from = 0; to = 13 } ∷ record { kind = OpenRound; from = 13; to = 14 } ∷ record { kind = Word; from = 14; to = 17 } ∷ record { kind = CloseRound; from = 17; to = 18 } ∷ [], record { short = omega arith; utf8 = ((codes "response-code(205)"), (refl, refl)); whole = ([], (codes "response-code"), (codes "(205)"), refl, refl, refl, refl, (omega arith, refl, refl), ([], (codes "("), (codes "205)"), refl, refl, refl, refl, refl, ([], (codes "205"), (codes ")"), refl, refl, refl, refl, (omega arith, refl, refl), ([], (codes ")"), [], refl, refl, refl, refl, refl, ([], refl, refl))))) }, ((tt, tt), inl (refl, (refl, refl, inr (inl (refl, inl (refl, refl, (refl, refl))))))))

low_status_fault : IsFault (codes "response-code(205)") BadParameter 14
low_status_fault = inr (inr (low_status_raw, low_status_reads, refl))

low_status_at : (line_of (codes "response-code(205)") 14 ≡ 1) × (column_of (codes "response-code(205)") 14 ≡ 15)
low_status_at = (refl, refl)

-- echo (LF)   blocking(x)
abbrev on_line_two_raw : RawList
on_line_two_raw = more (act (handler (record { name = record { bytes = (codes "echo"); place = 0 }; parameters = unnamed [] }))) (more (act (handler (record { name = record { bytes = (codes "blocking"); place = 7 }; parameters = unnamed ((one (record { bytes = (codes "x"); place = 16 })) ∷ []) }))) (none))

on_line_two_reads : Reads (101 ∷ 99 ∷ 104 ∷ 111 ∷ 10 ∷ 32 ∷ 32 ∷ 98 ∷ 108 ∷ 111 ∷ 99 ∷ 107 ∷ 105 ∷ 110 ∷ 103 ∷ 40 ∷ 120 ∷ 41 ∷ []) on_line_two_raw
unfolding encode
on_line_two_reads = (record { kind = Word; from = 0; to = 4 } ∷ record { kind = Newline; from = 4; to = 5 } ∷ record { kind = Word; from = 7; to = 15 } ∷ record { kind = OpenRound; from = 15; to = 16 } ∷ record { kind = Word; from = 16; to = 17 } ∷ record { kind = CloseRound; from = 17; to = 18 } ∷ [], record { short = omega arith; utf8 = ((101 ∷ 99 ∷ 104 ∷ 111 ∷ 10 ∷ 32 ∷ 32 ∷ 98 ∷ 108 ∷ 111 ∷ 99 ∷ 107 ∷ 105 ∷ 110 ∷ 103 ∷ 40 ∷ 120 ∷ 41 ∷ []), (refl, refl)); whole = ([], (codes "echo"), (10 ∷ 32 ∷ 32 ∷ 98 ∷ 108 ∷ 111 ∷ 99 ∷ 107 ∷ 105 ∷ 110 ∷ 103 ∷ 40 ∷ 120 ∷ 41 ∷ []), refl, refl, refl, refl, (omega arith, refl, refl), ([], (10 ∷ []), (codes "  blocking(x)"), refl, refl, refl, refl, refl, ((codes "  "), (codes "blocking"), (codes "(x)"), refl, refl, refl, refl, (omega arith, refl, refl), ([], (codes "("), (codes "x)"), refl, refl, refl, refl, refl, ([], (codes "x"), (codes ")"), refl, refl, refl, refl, (omega arith, refl, refl), ([], (codes ")"), [], refl, refl, refl, refl, refl, ([], refl, refl))))))) }, ((tt, (tt, tt)), inl (refl, (refl, refl, inl (refl, inl (refl, inl (refl, (refl, refl, inr (inl (refl, inl (refl, refl, (refl, refl))))))))))))

on_line_two_fault : IsFault (101 ∷ 99 ∷ 104 ∷ 111 ∷ 10 ∷ 32 ∷ 32 ∷ 98 ∷ 108 ∷ 111 ∷ 99 ∷ 107 ∷ 105 ∷ 110 ∷ 103 ∷ 40 ∷ 120 ∷ 41 ∷ []) BadParameter 16
on_line_two_fault = inr (inr (on_line_two_raw, on_line_two_reads, refl))

on_line_two_at : (line_of (101 ∷ 99 ∷ 104 ∷ 111 ∷ 10 ∷ 32 ∷ 32 ∷ 98 ∷ 108 ∷ 111 ∷ 99 ∷ 107 ∷ 105 ∷ 110 ∷ 103 ∷ 40 ∷ 120 ∷ 41 ∷ []) 16 ≡ 2) × (column_of (101 ∷ 99 ∷ 104 ∷ 111 ∷ 10 ∷ 32 ∷ 32 ∷ 98 ∷ 108 ∷ 111 ∷ 99 ∷ 107 ∷ 105 ∷ 110 ∷ 103 ∷ 40 ∷ 120 ∷ 41 ∷ []) 16 ≡ 12)
on_line_two_at = (refl, refl)

-- path('/a -> done
open_quote_valid : 5 ≤ utf8_valid_len (codes "path('/a -> done")
unfolding encode
open_quote_valid = let e : utf8_valid_len (codes "path('/a -> done") ≡ 16 = utf8_valid_len-IsUtf8 (codes "path('/a -> done") ((codes "path('/a -> done"), (refl, refl)) in omega (arith, e)

open_quote_fault : IsFault (codes "path('/a -> done") UnclosedQuote 5
open_quote_fault = inl (quote_fault (codes "path('/a -> done") 5 (codes "'/a -> done") (omega arith) (record { kind = Word; from = 0; to = 4 } ∷ record { kind = OpenRound; from = 4; to = 5 } ∷ [], ([], (codes "path"), (codes "('/a -> done"), refl, refl, refl, refl, (omega arith, refl, refl), ([], (codes "("), (codes "'/a -> done"), refl, refl, refl, refl, refl, ([], refl, refl))), refl) (39, (codes "/a -> done"), refl, refl, refl) open_quote_valid)

open_quote_at : (line_of (codes "path('/a -> done") 5 ≡ 1) × (column_of (codes "path('/a -> done") 5 ≡ 6)
open_quote_at = (refl, refl)

-- redirect(a%{b)
open_brace_valid : 10 ≤ utf8_valid_len (codes "redirect(a%{b)")
unfolding encode
open_brace_valid = let e : utf8_valid_len (codes "redirect(a%{b)") ≡ 14 = utf8_valid_len-IsUtf8 (codes "redirect(a%{b)") ((codes "redirect(a%{b)"), (refl, refl)) in omega (arith, e)

open_brace_fault : IsFault (codes "redirect(a%{b)") UnclosedBrace 10
open_brace_fault = inl (brace_fault (codes "redirect(a%{b)") 9 (codes "a") (codes "%{b)") (omega arith) (record { kind = Word; from = 0; to = 8 } ∷ record { kind = OpenRound; from = 8; to = 9 } ∷ [], ([], (codes "redirect"), (codes "(a%{b)"), refl, refl, refl, refl, (omega arith, refl, refl), ([], (codes "("), (codes "a%{b)"), refl, refl, refl, refl, refl, ([], refl, refl))), refl) refl (37, (codes "{b)"), refl, refl, refl) open_brace_valid)

open_brace_at : (line_of (codes "redirect(a%{b)") 10 ≡ 1) × (column_of (codes "redirect(a%{b)") 10 ≡ 11)
open_brace_at = (refl, refl)

-- echo; (0x01)
control_valid : 5 ≤ utf8_valid_len (101 ∷ 99 ∷ 104 ∷ 111 ∷ 59 ∷ 1 ∷ [])
unfolding encode
control_valid = let e : utf8_valid_len (101 ∷ 99 ∷ 104 ∷ 111 ∷ 59 ∷ 1 ∷ []) ≡ 6 = utf8_valid_len-IsUtf8 (101 ∷ 99 ∷ 104 ∷ 111 ∷ 59 ∷ 1 ∷ []) ((101 ∷ 99 ∷ 104 ∷ 111 ∷ 59 ∷ 1 ∷ []), (refl, refl)) in omega (arith, e)

control_fault : IsFault (101 ∷ 99 ∷ 104 ∷ 111 ∷ 59 ∷ 1 ∷ []) StrayByte 5
control_fault = inl (stray_fault (101 ∷ 99 ∷ 104 ∷ 111 ∷ 59 ∷ 1 ∷ []) 5 (1 ∷ []) (omega arith) (record { kind = Word; from = 0; to = 4 } ∷ record { kind = Semi; from = 4; to = 5 } ∷ [], ([], (codes "echo"), (59 ∷ 1 ∷ []), refl, refl, refl, refl, (omega arith, refl, refl), ([], (codes ";"), (1 ∷ []), refl, refl, refl, refl, refl, ([], refl, refl))), refl) (1, [], refl, refl, refl) control_valid)

control_at : (line_of (101 ∷ 99 ∷ 104 ∷ 111 ∷ 59 ∷ 1 ∷ []) 5 ≡ 1) × (column_of (101 ∷ 99 ∷ 104 ∷ 111 ∷ 59 ∷ 1 ∷ []) 5 ≡ 6)
control_at = (refl, refl)
