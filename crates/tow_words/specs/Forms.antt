-- The words that each command takes after its name, as a simple command of `clap`.
use Rattle.std.specs.Prelude.{ℕ, ◌-◌, true, Some, codes}
use Rattle.tow_model.specs.declared.limits.TheConstants.{FIRST_UNDATED}
use Rattle.clap.specs.Walk.{Rule, Text}
use Rattle.clap.specs.Simple.{App, new_app, new_rule, with_rule}
use Rattle.clap.specs.declared.builder.action.ArgAction.TheVariants.{Set}
use Rattle.clap.specs.declared.builder.value_parser.ValueParser.TheVariants.{Unsigned}
use Rattle.tow_words.specs.declared.bounds.TheConstants.{MAX_CONNECTIONS, MAX_DRILL, MAX_LOOPS, MAX_SLOTS, MAX_WORKERS}

-- one word that has to be there, and is any text
abbrev pub place : Text → Rule
place id = record (new_rule id) { action = Some Set; required = true }

-- one word that has to be there, and is a number within these bounds
abbrev pub number_place : Text → ℕ → ℕ → Rule
number_place id least most = record (place id) { parser = Some (Unsigned least most) }

-- `--name N` or `--name=N`, a number within these bounds
abbrev pub number_option : Text → ℕ → ℕ → Rule
number_option name least most = record (new_rule name) { action = Some Set; long = Some name; parser = Some (Unsigned least most) }

-- no words; none stands for the program, and none asks for help or a version
abbrev pub bare : Text → App
bare name = let app = new_app name in record app { top = record app.top { no_binary_name = true; disable_help_flag = true; disable_version_flag = true } }

-- TEXT
abbrev pub check : App
check = with_rule (bare (codes "check")) (place (codes "text"))

-- DIR TEXT [--moment N]
abbrev pub ask : App
ask = with_rule (with_rule (with_rule (bare (codes "ask")) (place (codes "dir"))) (place (codes "text"))) (number_option (codes "moment") 0 (FIRST_UNDATED - 1))

-- N
abbrev pub drill : App
drill = with_rule (bare (codes "drill")) (number_place (codes "number") 0 MAX_DRILL)

-- DIR TEXT ADDRESS
abbrev pub serve_places : App
serve_places = with_rule (with_rule (with_rule (bare (codes "serve")) (place (codes "dir"))) (place (codes "text"))) (place (codes "address"))

-- DIR TEXT ADDRESS [--loops N] [--workers N] [--slots N] [--connections N]
abbrev pub serve : App
serve =
    with_rule (with_rule (with_rule (with_rule serve_places (number_option (codes "loops") 1 MAX_LOOPS)) (number_option (codes "workers") 1 MAX_WORKERS)) (number_option (codes "slots") 1 MAX_SLOTS))
    (number_option (codes "connections") 0 MAX_CONNECTIONS)
