-- What may be noted on a text without a fault.
use Rattle.std.specs.Prelude.{ℕ, List, codes}
use Rattle.tow_notes.specs.declared.remark.Remark.{Remark}
use Rattle.tow_notes.specs.declared.remark.Remark.TheVariants as remarks

unfoldable pub words_of : Remark → List ℕ
words_of remarks.NeverReached = codes "a statement before this one always stops, so it is never reached"
words_of remarks.UnboundName = codes "nothing in the text binds this name, so it is always empty"
words_of remarks.SmallMethod = codes "methods have capital letters, so no request has this one"
words_of remarks.NoMethod = codes "this is no method, so no request has it; write each one by itself"
words_of remarks.StarInPath = codes "no path is a pattern, and * stands for itself"
words_of remarks.EscapeInPath = codes "paths are compared decoded, so write the byte itself"
words_of remarks.FormatOfText = codes "this format has no attribute, so each line is this text"
words_of remarks.ExistsOfText = codes "this has no attribute, so it is the same for every request"
words_of remarks.EqualsOfTexts = codes "no value here has an attribute, so it is the same for every request"
words_of remarks.EqualsOfOne = codes "one value is equal to itself, so this always holds"
words_of remarks.PathInAddress = codes "this is decoded, so the address may be another one; write %U"
words_of remarks.RemainingInAddress = codes "this is decoded, and //host in it leads away; write a host or path before a group of a regex over %U"
words_of remarks.WholeFolder = codes "what is not found there is looked for in the whole folder; write response-code(404) after it"
words_of remarks.Unbuilt = codes "this is not built yet, so ask refuses the text"
