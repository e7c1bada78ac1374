-- The reply to a request is all that its exchange writes.
use Rattle.std.proofs.Common.{◌≡◌, ℕ, Bool, true, false, not, ◌&&◌, ◌||◌, if◌then◌else◌, List, [], ◌++◌, Option, refl, sym, ap, ◌∙◌, subst}
use Rattle.tow_model.specs.declared.answer.Answer.{Answer}
use Rattle.tow_model.specs.declared.content.Content.{Content}
use Rattle.tow_model.specs.declared.record.Record.{Record}
use Rattle.tow_model.specs.declared.request.Request.{Request}
use Rattle.tow_model.specs.declared.statement.Statement.{Statement}
use Rattle.tow_wire.specs.Answers.{answer, answer_of, closes, is_too_long, continue_text}
use Rattle.tow_semantics.specs.Runs.{Run, Walked, Ending}
use Rattle.tow_semantics.specs.Sites.{run_of}
use Rattle.tow_wire.specs.Wire.{text_of, goes_on}
use Rattle.tow_site.specs.Decided.{settled, Decides}
use Rattle.tow_conn.specs.Conversations.{no_content, Answers}

-- all that is written for an exchange that walked so
abbrev text_by : Run → ℕ → Request → Walked → List ℕ
text_by run j q w = text_of run 0 (record { number = j; request = q; content = no_content; outcome = w.outcome })

abbrev goes_by : ℕ → Request → Walked → Bool
goes_by j q w = goes_on (record { number = j; request = q; content = no_content; outcome = w.outcome })

not_invited : (expects : Bool) (long : Bool) (text : List ℕ) → expects ≡ false → (if (expects && false) && long then continue_text else []) ++ text ≡ text
not_invited expects long text is = ap (λ (b : Bool). (if (b && false) && long then continue_text else []) ++ text) is

answers_of : (run : Run) (j : ℕ) (q : Request) (x : Record) (a : Answer) (text : List ℕ) (looked worked : Bool)
    → run.outcome q (run.moment 0 j) no_content [] ≡ record { outcome = record (settled x) { looked = looked; worked = worked }; left = [] }
    → q.expects ≡ false
    → a ≡ answer_of q j (run.moment 0 j) no_content (settled x) → text ≡ answer run.file q a → Answers run j q text a.close
answers_of run j q x a text looked worked walked plain is whole = record {
  text_is = ap (text_by run j q) walked ∙ not_invited q.expects (not (is_too_long q.framing)) _ plain ∙ ap (answer run.file q) (sym is) ∙ sym whole;
  goes = ap (goes_by j q) walked ∙ ap (λ (b : Answer). not b.close) (sym is);
  leaves = ap (λ (w : Walked). w.left) walked;
}

-- the reply of a site whose text comes to the record x
pub site_answers : (tree : List Statement) (moments : ℕ → ℕ → ℕ) (j moment : ℕ) (q : Request) (x : Record) (a : Answer) (text : List ℕ)
    → Decides tree q moment x → moment ≡ moments 0 j → q.expects ≡ false → a ≡ answer_of q j moment no_content (settled x)
    → ((file : List ℕ → List ℕ) → text ≡ answer file q a) → Answers (run_of tree [] moments) j q text a.close
site_answers tree moments j moment q x a text decides at plain is whole =
    let settles = subst (λ (m : ℕ). Decides tree q m x) at decides no_content [] in
    answers_of (run_of tree [] moments) j q x a text settles.looked settles.worked settles.is plain
    (is ∙ ap (λ (m : ℕ). answer_of q j m no_content (settled x)) at) (whole (run_of tree [] moments).file)

always : (a c d e f : Bool) → (a || true || c || d || e || f) ≡ true
always true c d e f = refl
always false c d e f = refl

-- the answer to request 1,000 closes
pub last_closes : (q : Request) (j : ℕ) (content : Option Content) (o : Ending) → j ≡ 1000 → closes q j content o ≡ true
last_closes q j content o is = ap (λ (n : ℕ). closes q n content o) is ∙ always (not q.keep) _ _ _ _
