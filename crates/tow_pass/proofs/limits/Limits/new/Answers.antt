use Rattle.std.proofs.Common.{ℕ, suc, List, length, replicate, sym, ap, ◌∙◌}
use Rattle.tow_pass.proofs.Passing.{begins}
use Rattle.tow_pass.proofs.Asks.{next_word}
use Rattle.tow_pass.proofs.limits.Limits.new.Goals as goal

pub of_words-requires : goal.of_words-requires
of_words-requires c =
    begins c.in_ok-bounds.bounds.items c.deref.result.now (
    c.deref.ensures.value
    ∙ c.in_ok-words.ensures.items_if_clones_equal (λ y e. e)
    ∙ ap (λ (n : ℕ). replicate n 0) (next_word (length c.args.bounds.now) ∙ ap (λ (bs : List _). suc (length bs)) (sym c.in_ok-bounds.ensures.items)))
