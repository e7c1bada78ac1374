use Rattle.std.proofs.Common.{rules, ◌≡◌, ◌+◌, ◌++◌, ◌∷◌, [], ℕ, List, Some, None, option_map, map, length, get_or, sym, ap, subst, ◌∙◌}
use Rattle.tow_program.specs.declared.run.Run.{Run}
use Rattle.tow_program.specs.Skips.{past, row_of, shown, skipped}
use Rattle.tow_program.specs.Tables.{AreEntered, unentered}
use Rattle.tow_program.proofs.Entering.{grows, growing, places_of, rests, start_entered, to_enter}
use Rattle.tow_program.proofs.table.Table.put_run.Goals as goal

pub loop-literals-preserved : goal.loop-literals-preserved
loop-literals-preserved c =
    let program = c.args.instructions.now in
    let l = c.loop-literals in
    let entries = l.self.entries.items in
    let new = c.in-Some.literals in
    let found : unentered program entries l.at ≡ Some (shown new) = sym c.unentered.ensures ∙ ap (option_map shown) c.in-Some.is in
    let t = to_enter program entries l.at (shown new) found in
    let rows : c.put.new.self.rows ≡ l.rows.rows ++ map (row_of new.prefix) new.paths.now = search rules in
    let places : c.put.new.self.places ≡ l.rows.places ++ map (λ path. l.at) new.paths.now = search rules in
    let next : c.past-at.result ≡ past program l.at new.fails = search rules in
    let run : c.len.result ≡ length l.self.runs = search rules in
    let row : c.len-in-Some.result ≡ length l.rows.rows = search rules in
    grows program c.args.start l.self.runs entries l.rows.rows (map (row_of new.prefix) new.paths.now) l.rows.places l.at new.fails
    t.1 t.2 t.3 l.invariant.1 l.invariant.0 _ _ _ _ _ rows
    (places ∙ ap (λ x. l.rows.places ++ x) (places_of (row_of new.prefix) l.at new.paths.now)) next run row l.invariant.2

pub returns : goal.returns
returns c =
    let program = c.args.instructions.now in
    let l = c.loop-literals in
    let entries = l.self.entries.items in
    let none : c.unentered.result ≡ None = search rules in
    let lacks : unentered program entries l.at ≡ None = sym c.unentered.ensures ∙ ap (option_map shown) none in
    let run : c.in_ok-into_run.field-0 ≡ growing l.rows.rows l.rows.places l.at = search rules in
    let put : c.push.new.self ≡ l.self.runs ++ c.in_ok-into_run.field-0 ∷ [] = search rules in
    let pushed = put ∙ ap (λ (r : Run). l.self.runs ++ r ∷ []) run in
    subst (λ runs. AreEntered program (c.args.start + 1) runs entries) (sym pushed)
    (start_entered program c.args.start _ entries l.invariant.0
    (λ free path. (let begins = l.invariant.2 free in
    subst (λ n. skipped program path n ≡ n) begins (rests program entries l.at lacks (ap (λ n. get_or entries n None) begins ∙ free) path))))
