use Rattle.std.proofs.Common.{List, map, sym, ap, ◌∙◌}
use Rattle.tow_model.specs.Paths.{slash}
use Rattle.tow_model.specs.Texts.{Text, after}
use Rattle.tow_folder.specs.declared.answers.Name.{Name}
use Rattle.tow_folder.specs.Folders.{name_shown}
use Rattle.tow_folder.specs.Memory.{place_for}
use Rattle.tow_folder.proofs.Placing.{name_put, name_kept, is_some_copied}
use Rattle.tow_folder.proofs.naming.add_name.Goals as goal

pub returns-in_ok-insert : goal.returns-in_ok-insert
returns-in_ok-insert c =
    name_put c.args.names.now.items c.insert.new.self.items c.args.rest.now c.in-Some.place c.in_ok-text.text c.is_some-directory.result
    c.in_ok-insert.ensures.items (c.in_ok-text.ensures ∙ c.cut.ensures.front)
    (is_some_copied c.cut.result.1 c.is_some-directory.result (after slash c.args.rest.now) c.is_some-directory.ensures c.cut.ensures.rest)
    (c.in-Some.ensures.place
    ∙ ap (λ (names : List Name). place_for c.cut.result.0.now (map name_shown names)) c.deref.ensures.value
    ∙ ap (λ (text : Text). place_for text (map name_shown c.args.names.now.items)) (sym c.in_ok-text.ensures))

pub returns-in_default : goal.returns-in_default
returns-in_default c =
    name_kept c.args.names.now.items c.args.rest.now c.cut.result.0.now c.cut.ensures.front
    (c.in_default.ensures.place ∙ ap (λ (names : List Name). place_for c.cut.result.0.now (map name_shown names)) c.deref.ensures.value)
