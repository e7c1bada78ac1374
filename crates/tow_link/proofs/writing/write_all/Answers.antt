use Rattle.std.proofs.Common.{◌≡◌, ℕ, ◌≤◌, ◌-◌, List, ◌∙◌, ap, arith, length, length-drop, drop, take}
use Rattle.std.proofs.lemmas.List.{take_rest}
use Rattle.std.specs.Io.KnownBytes.{append_known}
use Rattle.tow_link.proofs.Appending.{append_more}
use Rattle.tow_link.proofs.writing.write_all.Goals as goal

pub writes-preserved : goal.writes-preserved
writes-preserved g c =
    let call = c.in-Took.ensures in
    let bytes = c.args.bytes.now in
    let rest : take (length bytes - c.writes.at) (drop c.writes.at bytes) ≡ drop c.writes.at bytes = take_rest bytes c.writes.at in
    let fits : c.in-Took.count ≤ length (drop c.writes.at bytes) = rw rest at call.fits.1 in
    record {
      within = omega (arith, fits, length-drop c.writes.at bytes);
      written = append_more _ _ _ bytes c.writes.at c.in-Took.count c.writes.invariant.written (call.bytes ∙ ap (λ (l : List ℕ). append_known (g.K.Sink.shows c.writes.sink).written (take c.in-Took.count l)) rest);
      later = omega (arith, c.writes.invariant.later, call.later);
    }
