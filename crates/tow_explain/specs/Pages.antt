-- What a person is told of a fault: the line with the column, what is wrong, how it is mended, and what the call takes.
use Rattle.std.specs.Prelude.{ℕ, ◌-◌, List, [], ◌∷◌, ◌++◌, Option, None, Some, codes, flat_map, decimal, length, take, drop, replicate}
use Rattle.tow_language.specs.declared.signatures.Parameter.{Parameter}
use Rattle.tow_language.specs.declared.signatures.Signature.{Signature}
use Rattle.tow_explain.specs.declared.cause.Cause.{Cause}
use Rattle.tow_explain.specs.declared.diagnosis.Diagnosis.{Diagnosis}
use Rattle.tow_explain.specs.declared.drawing.Row.TheVariants.{Text, Under}
use Rattle.tow_explain.specs.Causes.{mend_of, wrong_of}
use Rattle.tow_explain.specs.Drawn.{drawn}
use Rattle.tow_explain.specs.Forms.{parameter_words, takes_words}
use Rattle.tow_explain.specs.Lines.{dots, line_text, near_back, near_front}

-- white space as wide as the line's number, and a mark
abbrev pub margin : ℕ → List ℕ → List ℕ
margin line mark = replicate (length (decimal line)) 32 ++ mark

-- what is shown before the column, with dots for what is left out
unfoldable pub shown_front : List ℕ → List ℕ
shown_front front = dots front ++ drawn Text (near_front front)

-- what is shown from the column on
unfoldable pub shown_back : List ℕ → List ℕ
shown_back back = drawn Text (near_back back) ++ dots back

-- what stands under what is shown before the column
unfoldable pub under_front : List ℕ → List ℕ
under_front front = replicate (length (dots front)) 32 ++ drawn Under (near_front front)

-- the line, of which so much stands before the column
unfoldable pub shown_line : ℕ → List ℕ → List ℕ → List ℕ
shown_line line front back = decimal line ++ codes " | " ++ shown_front front ++ shown_back back ++ codes "\n"

-- the text that a sentence is about, if there is one
abbrev pub about : List ℕ → List ℕ
about [] = []
about (b ∷ bs) = codes ": `" ++ drawn Text (b ∷ bs) ++ codes "`"

-- what is wrong, and with what
unfoldable pub said : Cause → List ℕ → List ℕ
said cause subject = wrong_of cause ++ about subject

-- the caret under the column, and what is wrong there
unfoldable pub caret_line : ℕ → List ℕ → Cause → List ℕ → List ℕ
caret_line line front cause subject = margin line (codes " | ") ++ under_front front ++ codes "^ " ++ said cause subject ++ codes "\n"

unfoldable pub mend_line : ℕ → Cause → List ℕ
mend_line line cause = margin line (codes " = ") ++ mend_of cause ++ codes "\n"

-- what a call takes, a line for each parameter
unfoldable pub call_lines : ℕ → Option Signature → List ℕ
call_lines line None = []
call_lines line (Some s) =
    margin line (codes " = ") ++ s.name.now ++ takes_words s.parameters.now ++ codes "\n"
    ++ flat_map (λ (p : Parameter). margin line (codes " =   ") ++ parameter_words p ++ codes "\n") s.parameters.now

-- all of it
abbrev pub page : List ℕ → ℕ → ℕ → Diagnosis → List ℕ
page text line column d =
    shown_line line (take (column - 1) (line_text text line)) (drop (column - 1) (line_text text line))
    ++ caret_line line (take (column - 1) (line_text text line)) d.cause d.subject
    ++ mend_line line d.cause ++ call_lines line d.call
