use Rattle.std.proofs.Common.{refl}
use Rattle.std.specs.Prelude.{map, string_bytes}
use Rattle.clap.specs.Faults.{fault_of, is_free_app}
use Rattle.clap.specs.Simple.{app_of, built, is_simple}
use Rattle.clap.proofs.WalkLemmas.{both}
use Rattle.tow_words.proofs.Reading.{none_is_empty}
use Rattle.tow_words.proofs.given.matched.Goals as goal

pub returns-in-Ok-clause-matches : goal.returns-in-Ok-clause-matches
returns-in-Ok-clause-matches c =
    let app = app_of c.args.form in
    record {
      taken = none_is_empty (fault_of app (map string_bytes c.args.rest.now)) (c.in-Ok.ensures.kinds c.requires);
      rows = (c.in-Ok.ensures.matches (both (is_simple app) (is_free_app (built app)) c.requires).0).0;
      by = record {
        command = c.args.form;
        form = refl;
        parsed = c.in-Ok.ensures.parsed;
      };
    }
