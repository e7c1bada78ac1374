-- The lines that the commands print.
use Rattle.std.specs.Prelude.{◌≡◌, ◌⊎◌, ℕ, Bool, false, List, [], ◌++◌, codes, decimal}
use Rattle.tow_language.specs.declared.kind.Kind.{Kind}
use Rattle.tow_language.specs.declared.kind.Kind.TheVariants.{TooLong, UnclosedQuote, UnclosedBrace, StrayByte, Unexpected, TooDeep, UnknownName, BadParameter, BadAttribute, BadTarget, TooManyLimits, BadPattern, LargePattern}
use Rattle.tow_language.specs.Fault.{IsFault, line_of, column_of}
use Rattle.tow_site.specs.Compiled.{SiteData, IsSiteOf, IsFaultAtPattern}
use Rattle.tow_site.specs.declared.fault.Fault.{Fault}
use Rattle.tow_site.specs.declared.fault.Fault.TheVariants.{Text, NoMemory}

abbrev pub kind_name : Kind → List ℕ
kind_name TooLong = codes "TooLong"
kind_name UnclosedQuote = codes "UnclosedQuote"
kind_name UnclosedBrace = codes "UnclosedBrace"
kind_name StrayByte = codes "StrayByte"
kind_name Unexpected = codes "Unexpected"
kind_name TooDeep = codes "TooDeep"
kind_name UnknownName = codes "UnknownName"
kind_name BadParameter = codes "BadParameter"
kind_name BadAttribute = codes "BadAttribute"
kind_name BadTarget = codes "BadTarget"
kind_name TooManyLimits = codes "TooManyLimits"
kind_name BadPattern = codes "BadPattern"
kind_name LargePattern = codes "LargePattern"

-- the line that names a fault
abbrev pub fault_line : Kind → ℕ → ℕ → List ℕ
fault_line kind line column = decimal line ++ codes ":" ++ decimal column ++ codes ": " ++ kind_name kind ++ codes "\n"

-- the line for a text that compiles and uses what is not built yet
abbrev pub unbuilt_line : List ℕ
unbuilt_line = codes "1:1: Unbuilt\n"

-- the line that says how many statements a text has
abbrev pub ok_line : ℕ → List ℕ
ok_line statements = codes "ok " ++ decimal statements ++ codes "\n"

-- the line for a fault of a text
abbrev pub line_for : Fault → List ℕ
line_for (Text kind line column) = fault_line kind line column
line_for NoMemory = []

-- the line names the fault of the text: its tree's, or that of a pattern, where the host counted large patterns so before
-- the command and after it
abbrev pub IsFaultLine : List ℕ → (List ℕ → ℕ) → (List ℕ → ℕ) → List ℕ → Type 0
IsFaultLine bytes before now line =
    (kind : Kind) × (place : ℕ) × (IsFault bytes kind place ⊎ IsFaultAtPattern bytes kind place before now) × (line ≡ fault_line kind (line_of bytes place) (column_of bytes place))

-- the line says that the text's site is not built
abbrev pub IsUnbuiltLine : (SiteData → Bool) → List ℕ → List ℕ → Type 0
IsUnbuiltLine is_built bytes line = (site : SiteData) × IsSiteOf bytes site × (is_built site ≡ false) × (line ≡ unbuilt_line)

-- why a text is refused, and with which line
abbrev pub IsRefusal : (SiteData → Bool) → List ℕ → (List ℕ → ℕ) → (List ℕ → ℕ) → List ℕ → Type 0
IsRefusal is_built bytes before now line = IsFaultLine bytes before now line ⊎ IsUnbuiltLine is_built bytes line
