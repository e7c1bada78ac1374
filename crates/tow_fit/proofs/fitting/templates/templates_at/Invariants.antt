use Rattle.std.proofs.Common.{◌≡◌, drop}
use Rattle.tow_language.specs.Fit as fits
use Rattle.tow_fit.specs.Fitting.{joined}
use Rattle.tow_fit.proofs.fitting.templates.templates_at.Given as goal

abbrev pub invariant-loop-text : goal.invariant-loop-text
invariant-loop-text l = fits.templates_at l.place l.texts ≡ joined l.templates (fits.templates_at l.place (drop l.text-index l.texts))
