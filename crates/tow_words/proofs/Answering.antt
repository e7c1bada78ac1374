-- What each form's matches have, argument by argument.
use Rattle.std.proofs.Common.{◌≡◌, ◌∙◌, ◌-◌, ◌<◌, ℕ, Option, Some, refl, sym, subst, arith}
use Rattle.std.specs.Prelude.{codes}
use Rattle.clap.specs.Matches.{found_of}
use Rattle.clap.specs.Walk.{rows_of}
use Rattle.clap.specs.declared.parser.matches.ArgMatches.{ArgMatches}
use Rattle.tow_model.specs.declared.limits.TheConstants.{FIRST_UNDATED}
use Rattle.tow_words.specs.Forms.{ask, check, drill, number_option, number_place, place, serve}
use Rattle.tow_words.specs.Given.{IsGiven, IsNumberIn, IsParsedBy, number_given}
use Rattle.tow_words.specs.Words.{AreWithin, options_of}
use Rattle.tow_words.specs.declared.command.Options.{Options}
use Rattle.tow_words.specs.declared.bounds.TheConstants.{DEFAULT_CONNECTIONS, DEFAULT_LOOPS, DEFAULT_SLOTS, DEFAULT_WORKERS, LAST_MOMENT, MAX_CONNECTIONS, MAX_DRILL, MAX_LOOPS, MAX_SLOTS, MAX_WORKERS}
use Rattle.tow_words.proofs.Giving.{given, number}
use Rattle.tow_words.proofs.Places.{is_only}
use Rattle.tow_words.proofs.Reading.{number_within, or_within, wide}

pub check_text : (m : ArgMatches) → IsParsedBy check m → IsGiven (codes "text") (rows_of (found_of m))
unfolding is_only
check_text m by = given check m by refl refl refl 0 (place (codes "text")) (omega arith) refl refl refl refl refl

pub ask_dir : (m : ArgMatches) → IsParsedBy ask m → IsGiven (codes "dir") (rows_of (found_of m))
unfolding is_only
ask_dir m by = given ask m by refl refl refl 0 (place (codes "dir")) (omega arith) refl refl refl refl refl

pub ask_text : (m : ArgMatches) → IsParsedBy ask m → IsGiven (codes "text") (rows_of (found_of m))
unfolding is_only
ask_text m by = given ask m by refl refl refl 1 (place (codes "text")) (omega arith) refl refl refl refl refl

pub ask_moment : (m : ArgMatches) → IsParsedBy ask m → IsNumberIn 0 LAST_MOMENT (codes "moment") (rows_of (found_of m))
unfolding is_only
ask_moment m by = number ask m by refl refl refl 2 (number_option (codes "moment") 0 (FIRST_UNDATED - 1)) (omega arith) refl refl 0 (FIRST_UNDATED - 1) refl

pub drill_given : (m : ArgMatches) → IsParsedBy drill m → IsGiven (codes "number") (rows_of (found_of m))
unfolding is_only
drill_given m by = given drill m by refl refl refl 0 (number_place (codes "number") 0 MAX_DRILL) (omega arith) refl refl refl refl refl

pub drill_number : (m : ArgMatches) → IsParsedBy drill m → IsNumberIn 0 MAX_DRILL (codes "number") (rows_of (found_of m))
unfolding is_only
drill_number m by = number drill m by refl refl refl 0 (number_place (codes "number") 0 MAX_DRILL) (omega arith) refl refl 0 MAX_DRILL refl

pub serve_dir : (m : ArgMatches) → IsParsedBy serve m → IsGiven (codes "dir") (rows_of (found_of m))
unfolding is_only
serve_dir m by = given serve m by refl refl refl 0 (place (codes "dir")) (omega arith) refl refl refl refl refl

pub serve_text : (m : ArgMatches) → IsParsedBy serve m → IsGiven (codes "text") (rows_of (found_of m))
unfolding is_only
serve_text m by = given serve m by refl refl refl 1 (place (codes "text")) (omega arith) refl refl refl refl refl

pub serve_address : (m : ArgMatches) → IsParsedBy serve m → IsGiven (codes "address") (rows_of (found_of m))
unfolding is_only
serve_address m by = given serve m by refl refl refl 2 (place (codes "address")) (omega arith) refl refl refl refl refl

pub serve_loops : (m : ArgMatches) → IsParsedBy serve m → IsNumberIn 1 MAX_LOOPS (codes "loops") (rows_of (found_of m))
unfolding is_only
serve_loops m by = number serve m by refl refl refl 3 (number_option (codes "loops") 1 MAX_LOOPS) (omega arith) refl refl 1 MAX_LOOPS refl

pub serve_workers : (m : ArgMatches) → IsParsedBy serve m → IsNumberIn 1 MAX_WORKERS (codes "workers") (rows_of (found_of m))
unfolding is_only
serve_workers m by = number serve m by refl refl refl 4 (number_option (codes "workers") 1 MAX_WORKERS) (omega arith) refl refl 1 MAX_WORKERS refl

pub serve_slots : (m : ArgMatches) → IsParsedBy serve m → IsNumberIn 1 MAX_SLOTS (codes "slots") (rows_of (found_of m))
unfolding is_only
serve_slots m by = number serve m by refl refl refl 5 (number_option (codes "slots") 1 MAX_SLOTS) (omega arith) refl refl 1 MAX_SLOTS refl

pub serve_connections : (m : ArgMatches) → IsParsedBy serve m → IsNumberIn 0 MAX_CONNECTIONS (codes "connections") (rows_of (found_of m))
unfolding is_only
serve_connections m by = number serve m by refl refl refl 6 (number_option (codes "connections") 0 MAX_CONNECTIONS) (omega arith) refl refl 0 MAX_CONNECTIONS refl

pub moment_within : (m : ArgMatches) (result : Option ℕ) → IsParsedBy ask m → result ≡ number_given (codes "moment") (rows_of (found_of m)) → (second : ℕ) → result ≡ Some second → second < FIRST_UNDATED
moment_within m result by is second some =
    let last = number_within 0 LAST_MOMENT (codes "moment") (rows_of (found_of m)) second (ask_moment m by) (sym some ∙ is) in
    omega (arith, last)

pub drill_word : (m : ArgMatches) → IsParsedBy drill m → IsNumberIn 0 4294967295 (codes "number") (rows_of (found_of m))
drill_word m by = wide 0 MAX_DRILL 4294967295 (codes "number") (rows_of (found_of m)) (drill_number m by) (omega arith)

pub loops_word : (m : ArgMatches) → IsParsedBy serve m → IsNumberIn 0 4294967295 (codes "loops") (rows_of (found_of m))
loops_word m by = wide 1 MAX_LOOPS 4294967295 (codes "loops") (rows_of (found_of m)) (serve_loops m by) (omega arith)

pub workers_word : (m : ArgMatches) → IsParsedBy serve m → IsNumberIn 0 4294967295 (codes "workers") (rows_of (found_of m))
workers_word m by = wide 1 MAX_WORKERS 4294967295 (codes "workers") (rows_of (found_of m)) (serve_workers m by) (omega arith)

pub slots_word : (m : ArgMatches) → IsParsedBy serve m → IsNumberIn 0 4294967295 (codes "slots") (rows_of (found_of m))
slots_word m by = wide 1 MAX_SLOTS 4294967295 (codes "slots") (rows_of (found_of m)) (serve_slots m by) (omega arith)

pub connections_word : (m : ArgMatches) → IsParsedBy serve m → IsNumberIn 0 4294967295 (codes "connections") (rows_of (found_of m))
connections_word m by = wide 0 MAX_CONNECTIONS 4294967295 (codes "connections") (rows_of (found_of m)) (serve_connections m by) (omega arith)

-- the options of a form's matches are within their bounds
pub options_within : (m : ArgMatches) (options : Options) → IsParsedBy serve m → options ≡ options_of (rows_of (found_of m)) → AreWithin options
options_within m options by is =
    let rows = rows_of (found_of m) in
    let within : AreWithin (options_of rows) = record {
      loops = or_within 1 MAX_LOOPS DEFAULT_LOOPS (codes "loops") rows (serve_loops m by) (omega arith) (omega arith);
      workers = or_within 1 MAX_WORKERS DEFAULT_WORKERS (codes "workers") rows (serve_workers m by) (omega arith) (omega arith);
      slots = or_within 1 MAX_SLOTS DEFAULT_SLOTS (codes "slots") rows (serve_slots m by) (omega arith) (omega arith);
      connections = (or_within 0 MAX_CONNECTIONS DEFAULT_CONNECTIONS (codes "connections") rows (serve_connections m by) (omega arith) (omega arith)).1;
    } in
    subst AreWithin (sym is) within
