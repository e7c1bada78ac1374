use Rattle.std.proofs.Common.{◌≡◌, ◌≤◌, ℕ, List, All, map, take}
use Rattle.tow_pattern.specs.Patterns.{IsGoodPattern}
use Rattle.tow_pred.specs.Found.{told}
use Rattle.tow_pred.proofs.building.build_all.Given as goal

abbrev pub invariant-loop-test : goal.invariant-loop-test
invariant-loop-test g l = record {
  patterns : l.patterns ≡ map (λ t. t.1) (told (take l.test-index l.found));
  good : All IsGoodPattern l.patterns;
  later : (p : List ℕ) → g.M.Maker.larges l.initial.maker p ≤ g.M.Maker.larges l.maker p;
  only : g.M.Maker.larges l.maker ≡ g.M.Maker.larges l.initial.maker;
  stays : g.M.Maker.stays l.initial.maker l.maker;
}
