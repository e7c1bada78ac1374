-- What one call does of a maker of patterns.
use Rattle.std.specs.Prelude.{◌≡◌, ℕ, List, if◌then◌else◌, is_some}
use Rattle.regex.specs.Bytes.{regex_source, regex_config, IsReadFromSource}
use Rattle.regex.specs.declared.bytes.regex.Regex.{Regex}
use Rattle.tow_pattern.specs.Patterns.{over_bytes}
use Rattle.tow_link.specs.Data.{raised}
use Rattle.tow_link.specs.Entries.{entry_at}
use Rattle.tow_link.specs.Counts.{Counts, raised_at}
use Rattle.tow_link.specs.declared.maker.Made.{Made}
use Rattle.tow_link.specs.declared.maker.Made.TheVariants.{Built, Syntax, Large, NoMemory}

-- the regex is what the grammar reads in the pattern, over bytes
abbrev pub IsRegexOf : List ℕ → Regex → Type 0
IsRegexOf pattern regex = (regex_source regex ≡ pattern) × (regex_config regex ≡ over_bytes) × IsReadFromSource regex

-- where the pattern was built, this is so of what was made
abbrev pub IfBuilt : Made → (Regex → Type 0) → Type 0
IfBuilt (Built regex) P = P regex
IfBuilt Syntax P = Unit {0}
IfBuilt Large P = Unit {0}
IfBuilt NoMemory P = Unit {0}

-- the count of a maker that has one for all patterns: one more at `Large`, and else as it was
abbrev pub count_after : Made → ℕ → ℕ
count_after (Built regex) count = count
count_after Syntax count = count
count_after Large count = raised count
count_after NoMemory count = count

-- The counts of a maker with a list of patterns: one more for a pattern of the list, and for another one more at `Large` in the
-- number that stands for all others. Everything else is as it was.
abbrev pub counts_after : Made → List ℕ → Counts → Counts
counts_after made pattern counts =
    if is_some (entry_at counts.named pattern) then record counts { named = raised_at counts.named pattern } else record counts { others = count_after made counts.others }
