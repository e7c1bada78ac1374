use Rattle.std.proofs.Common.{◌≡◌, IsTrue, nat_lt, drop}
use Rattle.std.specs.List.{list_all}
use Rattle.tow_host.specs.Moments.{second_of}
use Rattle.tow_model.specs.declared.limits.TheConstants.{FIRST_UNDATED}
use Rattle.tow_host.proofs.memory_clock.second_in.Given as goal

abbrev pub invariant-moments : goal.invariant-moments
invariant-moments l = record {
  told : second_of l.moments l.others l.k l.j ≡ second_of (drop l.moment-index l.moments) l.others l.k l.j;
  small : IsTrue (list_all (λ moment. nat_lt moment.second FIRST_UNDATED) (drop l.moment-index l.moments));
}
