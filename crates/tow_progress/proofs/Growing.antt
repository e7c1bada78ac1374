-- The outcome of a text goes on by its verdicts, and by its content.
use Rattle.std.proofs.Common.{◌≡◌, ℕ, true, false, List, [], ◌∷◌, ◌++◌, Option, Some, None, refl, sym, subst}
use Rattle.tow_model.specs.declared.account.Verdict.{Verdict}
use Rattle.tow_model.specs.declared.content.Content.{Content}
use Rattle.tow_semantics.specs.Plans.{Stand, Plan, Over, AwaitVerdict, AwaitContent, AwaitPage, exchange_plan}
use Rattle.tow_semantics.specs.Pages.{found_page}
use Rattle.tow_semantics.specs.Walk.{Given, Notes, entered}
use Rattle.tow_semantics.specs.Runs.{Walked, GoesOn}
use Rattle.tow_semantics.specs.Outcome.{played, opening}
use Rattle.tow_semantics.specs.Sites.{given}
use Rattle.tow_semantics.proofs.Playing.{outcome_is_played}
use Rattle.tow_progress.specs.Runs.{ComesOn, TextsGrow}
use Rattle.tow_progress.proofs.ContentEnds.{IsOverAfter, ContentEnds, exchange_ends}

-- the notes with these verdicts still to come
abbrev to_come : List Verdict → Notes → Notes
to_come vs n = record n { left = vs }

-- ---- what was asked for stays asked for

abbrev StaysAsked : Given → Plan → Type 0
StaysAsked g p = (n : Notes) → n.asked ≡ true → (played g p n).outcome.asked ≡ true

asked_verdict : (g : Given) (limit : ℕ) (s : Stand) (go : Verdict → Plan) → ((v : Verdict) → StaysAsked g (go v))
    → (n : Notes) (vs : List Verdict) → n.asked ≡ true → (played g (AwaitVerdict limit s go) (to_come vs n)).outcome.asked ≡ true
asked_verdict g limit s go stays n [] is = is
asked_verdict g limit s go stays n (v ∷ vs) is = stays v (entered limit v vs n) is

asked_content : (g : Given) (s : Stand) (go : Content → Plan) (c : Option Content)
    → ((x : Content) → StaysAsked (record g { content = c }) (go x)) → StaysAsked (record g { content = c }) (AwaitContent s go)
asked_content g s go None stays n is = refl
asked_content g s go (Some x) stays n is = stays x (record n { asked = true }) refl

stays_asked : (g : Given) (p : Plan) → StaysAsked g p
stays_asked g (Over s) n is = is
stays_asked g (AwaitVerdict limit s go) n is = asked_verdict g limit s go (λ v. stays_asked g (go v)) n n.left is
stays_asked g (AwaitContent s go) n is = asked_content g s go g.content (λ x. stays_asked g (go x)) n is
stays_asked g (AwaitPage location listing s go) n is =
    stays_asked g (go (found_page g.files location listing g.request s.state)) (record n { looked = true }) is

-- ---- more verdicts

abbrev Goes : Given → Plan → Type 0
Goes g p = (n : Notes) (more : List Verdict) → GoesOn (played g p n) (played g p (to_come (n.left ++ more) n)) more

goes_verdict : (g : Given) (limit : ℕ) (s : Stand) (go : Verdict → Plan) → ((v : Verdict) → Goes g (go v))
    → (n : Notes) (vs more : List Verdict)
    → GoesOn (played g (AwaitVerdict limit s go) (to_come vs n)) (played g (AwaitVerdict limit s go) (to_come (vs ++ more) n)) more
goes_verdict g limit s go goes n [] more = record {
  settled = λ ne. absurd (ne refl);
  asked = λ is. asked_verdict g limit s go (λ v. stays_asked g (go v)) n more is;
}
goes_verdict g limit s go goes n (v ∷ vs) more = goes v (entered limit v vs n) more

goes_content : (g : Given) (s : Stand) (go : Content → Plan) (c : Option Content)
    → ((x : Content) → Goes (record g { content = c }) (go x)) → Goes (record g { content = c }) (AwaitContent s go)
goes_content g s go None goes n more = record { settled = λ ne. refl; asked = λ is. refl }
goes_content g s go (Some x) goes n more = goes x (record n { asked = true }) more

goes : (g : Given) (p : Plan) → Goes g p
goes g (Over s) n more = record { settled = λ ne. refl; asked = λ is. is }
goes g (AwaitVerdict limit s go) n more = goes_verdict g limit s go (λ v. goes g (go v)) n n.left more
goes g (AwaitContent s go) n more = goes_content g s go g.content (λ x. goes g (go x)) n more
goes g (AwaitPage location listing s go) n more =
    goes g (go (found_page g.files location listing g.request s.state)) (record n { looked = true }) more

-- ---- the content

abbrev before_content : Given → Given
before_content g = record g { content = None }

abbrev Comes : Given → Plan → Type 0
Comes g p = ContentEnds p → (n : Notes) → n.asked ≡ false → ComesOn (played (before_content g) p n) (played g p n)

-- without the content, and with it, nothing has changed
abbrev unchanged : (w : Walked) → w.outcome.asked ≡ false → ComesOn w w
unchanged w not = record { unasked = λ ne. not; settled = λ ne. refl; asked = refl; entries = refl; listeners = refl }

comes_verdict : (g : Given) (limit : ℕ) (s : Stand) (go : Verdict → Plan) → ((v : Verdict) → Comes g (go v))
    → ((v : Verdict) → ContentEnds (go v)) → (n : Notes) (vs : List Verdict) → n.asked ≡ false
    → ComesOn (played (before_content g) (AwaitVerdict limit s go) (to_come vs n)) (played g (AwaitVerdict limit s go) (to_come vs n))
comes_verdict g limit s go comes ends n [] not = unchanged (played g (AwaitVerdict limit s go) (to_come [] n)) not
comes_verdict g limit s go comes ends n (v ∷ vs) not = comes v (ends v) (entered limit v vs n) not

comes_content : (g : Given) (s : Stand) (go : Content → Plan) (c : Option Content) → ((x : Content) → IsOverAfter s (go x)) → (n : Notes)
    → ComesOn (played (before_content g) (AwaitContent s go) n) (played (record g { content = c }) (AwaitContent s go) n)
comes_content g s go None ends n =
    record { unasked = λ ne. absurd (ne refl); settled = λ ne. refl; asked = refl; entries = refl; listeners = refl }
comes_content g s go (Some x) ends n =
    subst (λ (p : Plan). ComesOn (played (before_content g) (AwaitContent s go) n) (played (record g { content = Some x }) p (record n { asked = true })))
    (sym (ends x).1)
    (record { unasked = λ ne. absurd (ne refl); settled = λ ne. absurd (ne refl); asked = refl; entries = refl; listeners = (ends x).2 })

comes : (g : Given) (p : Plan) → Comes g p
comes g (Over s) ends n not = unchanged (played g (Over s) n) not
comes g (AwaitVerdict limit s go) ends n not = comes_verdict g limit s go (λ v. comes g (go v)) ends n n.left not
comes g (AwaitContent s go) ends n not = comes_content g s go g.content ends n
comes g (AwaitPage location listing s go) ends n not =
    let page = found_page g.files location listing g.request s.state in
    comes g (go page) (ends page) (record n { looked = true }) not

-- ---- texts

both : (P : Walked → Walked → Type 0) (a b c d : Walked) → a ≡ c → b ≡ d → P c d → P a b
both P a b c d e f is = subst (λ x. P x b) (sym e) (subst (λ y. P c y) (sym f) is)

pub texts_grow : TextsGrow
texts_grow tree files moments = record {
  verdicts = λ q m c v more.
      let g = given files q m c in
      both (λ x y. GoesOn x y more) _ _ _ _ (outcome_is_played tree g v) (outcome_is_played tree g (v ++ more))
      (goes g (exchange_plan tree q m) (opening v) more);
  contents = λ q m c v.
      let g = given files q m c in
      both ComesOn _ _ _ _ (outcome_is_played tree (given files q m None) v) (outcome_is_played tree g v)
      (comes g (exchange_plan tree q m) (exchange_ends tree q m) (opening v) refl);
}
