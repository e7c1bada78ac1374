-- From what a reader knows to the text, or to its first fault.
use Rattle.std.specs.Prelude.{◌≡◌, ◌↔◌, ℕ, ◌+◌, ◌<◌, true, false, List, [], ◌∷◌, ◌++◌, map, length, take, get_or, IfSome}
use Rattle.std.proofs.Common.{refl, sym, ◌∙◌, ap, subst, arith, append_assoc}
use Rattle.std.proofs.lemmas.List.{append-nil, take_more, take_all, take-map, drop-map, map-append, length-map}
use Rattle.std.proofs.Math.Seq.{drop-cons, drop-length}
use mathlib.Core.Logic.{inl, inr}
use Rattle.tow_language.specs.declared.token.Token.{Token}
use Rattle.tow_language.specs.Raw.{RawList}
use Rattle.tow_language.specs.Symbols.{Symbol, joined, symbol_of, symbols_of}
use Rattle.tow_language.specs.Grammar.{AtEnd}
use Rattle.tow_language.specs.Tokens.{Cuts}
use Rattle.tow_language.specs.Syntax.{IsList, Begins, IsSyntaxFault, place_at}
use Rattle.tow_fit.specs.declared.fault.ParseFault.{ParseFault}
use Rattle.tow_fit.specs.declared.fault.ParseFault.TheVariants.{Unexpected, TooDeep, UnknownName, BadParameter, BadAttribute, BadTarget, TooManyLimits, NoMemory}
use Rattle.tow_parse.specs.declared.goal.Goal.TheVariants.{Statements}
use Rattle.tow_parse.specs.declared.part.Part.{Part}
use Rattle.tow_parse.specs.declared.step.Reader.{Reader}
use Rattle.tow_fit.specs.Faults.{parse_fault}
use Rattle.tow_parse.specs.Follows.{Leads, AllThen}
use Rattle.tow_parse.specs.Parts.{RawPart, raw_part, parts_of}
use Rattle.tow_parse.specs.Readers.{Makes, MayFollow, Agrees, Steps, Halts, Finishes, EndsEarly}
use Rattle.tow_parse.proofs.GoesOn.{goes_on}
use Rattle.tow_parse.proofs.Joining.{joined_line}
use Rattle.tow_parse.proofs.TargetMoves.{list_after, after_list}

-- at the front of a text
start : (d : ℕ) (xs : List Symbol) (all : List RawPart) → Makes d xs all ↔ Leads d (Statements 32 false ∷ []) true [] (joined 0 xs) all
start d xs all = (
  λ (raw, is, e). ((raw, tt), (is.0, tt), list_after raw AtEnd (joined 0 xs) is.1, append-nil _ ∙ append-nil (parts_of raw) ∙ e),
  λ (rs, w, a, e). (rs.0, (w.0, after_list rs.0 AtEnd (joined 0 xs) a), sym (append-nil _ ∙ append-nil (parts_of rs.0)) ∙ e),
)

pub start_agrees : (r : Reader) → r.state.goals ≡ Statements 32 false ∷ [] → r.state.free ≡ true → r.state.parts ≡ [] → r.depth ≡ 0 → Agrees [] r
start_agrees r goals free parts depth = record {
  shaped = rw goals (refl, tt);
  same = λ d xs all. rw (goals, free, parts, depth) (start d xs all);
}

-- behind a token
pub steps_agree : (front : List Symbol) (old : Reader) (x : Symbol) (new : Reader) → Agrees front old → Steps old x new → Agrees (front ++ x ∷ []) new
steps_agree front old x new agrees steps = record {
  shaped = steps.shaped;
  same = λ d xs all. (
    λ m. (steps.same d xs all).0 ((agrees.same d (x ∷ xs) all).0 (subst (λ k. Makes d k all) (append_assoc front (x ∷ []) xs) m)),
    λ r. subst (λ k. Makes d k all) (sym (append_assoc front (x ∷ []) xs)) ((agrees.same d (x ∷ xs) all).1 ((steps.same d xs all).1 r)),
  );
}

module _ (front : List Symbol) (r : Reader) (agrees : Agrees front r) where
  begins : Begins 32 front
  begins =
      let g = goes_on 0 r.state.goals r.state.free in
      let m = (agrees.same 0 g.0 _).1 (g.2.0, g.2.1, subst (λ k. AllThen r.state.goals g.2.0 r.state.free k) (sym (joined_line r.depth g.0 g.1)) g.2.2, refl) in
      (g.0, m.0, m.1)

  -- what a text goes on with may follow
  may : (d : ℕ) (xs : List Symbol) → (raw : RawList) → IsList (32 + d) (front ++ xs) raw → MayFollow r d xs
  may d xs raw is = let m = (agrees.same d xs (parts_of raw)).0 (raw, is, refl) in (m.0, m.1, m.2)

  made : (d : ℕ) (xs : List Symbol) → MayFollow r d xs → (raw : RawList) × IsList (32 + d) (front ++ xs) raw
  made d xs (rs, w, a) = let m = (agrees.same d xs _).1 (rs, w, a, refl) in (m.0, m.1)

-- the front of the symbols
module _ (text : List ℕ) (tokens : List Token) (cut : Cuts text tokens) where
  abbrev symbols : List Symbol
  symbols = symbols_of text tokens

  abbrev pub front_of : ℕ → List Symbol
  front_of i = map (symbol_of text) (take i tokens)

  front_is : (i : ℕ) → take i symbols ≡ front_of i
  front_is i = take-map (symbol_of text) i tokens

  pub front_more : (i : ℕ) (d : Token) → i < length tokens → front_of (i + 1) ≡ front_of i ++ symbol_of text (get_or tokens i d) ∷ []
  front_more i d lt = ap (map (symbol_of text)) (take_more tokens i d lt) ∙ map-append (symbol_of text) (take i tokens) (get_or tokens i d ∷ [])

  size : length symbols ≡ length tokens
  size = length-map tokens (symbol_of text)

  place_here : (i : ℕ) (d : Token) → i < length tokens → place_at text symbols i ≡ (symbol_of text (get_or tokens i d)).place
  place_here i d lt = rw (drop-map (symbol_of text) i tokens, drop-cons tokens i d lt) refl

  module _ (i : ℕ) (r : Reader) (agrees : Agrees (front_of i) r) where
    before : Begins 32 (take i symbols)
    before = subst (Begins 32) (sym (front_is i)) (begins (front_of i) r agrees)

    module _ (d : Token) (lt : i < length tokens) where
      abbrev x : Symbol
      x = symbol_of text (get_or tokens i d)

      next : (xs : List Symbol) → take (i + 1) symbols ++ xs ≡ front_of i ++ x ∷ xs
      next xs = ap (λ k. k ++ xs) (front_is (i + 1) ∙ front_more i d lt) ∙ append_assoc (front_of i) (x ∷ []) xs

      no_more : (e : ℕ) → ((xs : List Symbol) → MayFollow r e (x ∷ xs) → ⊥) → Begins (32 + e) (take (i + 1) symbols) → ⊥
      no_more e never (xs, raw, is) = never xs (may (front_of i) r agrees e (x ∷ xs) raw (subst (λ k. IsList (32 + e) k raw) (next xs) is))

      short : i < length symbols
      short = let s = size in omega (arith, s, lt)

      pub halted : (e : ParseFault) → Halts r x e → IfSome (parse_fault e) (λ f. IsSyntaxFault text f.kind f.place)
      halted (Unexpected place) h = (
        tokens,
        i,
        cut,
        record { before = before; stops = λ n. inl (short, no_more n (h.1 n)) },
        h.0 ∙ sym (place_here i d lt),
      )
      halted (TooDeep place) h =
          let m = made (front_of i) r agrees 1 (x ∷ h.2.0) h.2.1 in (
            tokens,
            i,
            cut,
            (
              short,
              record {
                before = before;
                deeper = (h.2.0, m.0, subst (λ k. IsList 33 k m.0) (sym (next h.2.0)) m.1);
                stops = no_more 0 h.1;
              },
            ),
            h.0 ∙ sym (place_here i d lt),
          )
      halted NoMemory h = tt
      halted (UnknownName place) h = absurd h
      halted (BadParameter place) h = absurd h
      halted (BadAttribute place) h = absurd h
      halted (BadTarget place) h = absurd h
      halted (TooManyLimits place) h = absurd h

  -- at the end of the text
  module _ (r : Reader) (agrees : Agrees (map (symbol_of text) tokens) r) where
    whole : (n : ℕ) (raw : RawList) → IsList n (symbols ++ []) raw → IsList n symbols raw
    whole n raw is = subst (λ k. IsList n k raw) (append-nil symbols) is

    pub finished : (parts : List Part) → Finishes r parts → (raw : RawList) × IsList 32 symbols raw × (parts_of raw ≡ map raw_part parts)
    finished parts f = let m = (agrees.same 0 [] (map raw_part parts)).1 f in (m.0, whole 32 m.0 m.1, m.2)

    all_taken : take (length tokens) symbols ≡ symbols
    all_taken = take_all (length tokens) symbols (let s = size in omega (arith, s))

    place_end : place_at text symbols (length tokens) ≡ length text
    place_end = rw (drop-map (symbol_of text) (length tokens) tokens, drop-length tokens) refl

    pub early : (e : ParseFault) → EndsEarly r (length text) e → IfSome (parse_fault e) (λ f. IsSyntaxFault text f.kind f.place)
    early (Unexpected place) h = (
      tokens,
      length tokens,
      cut,
      record {
        before = subst (Begins 32) (sym all_taken) (begins symbols r agrees);
        stops = λ n. inr (sym size, λ raw is. h.1 n (may symbols r agrees n [] raw (subst (λ k. IsList (32 + n) k raw) (sym (append-nil symbols)) is)));
      },
      h.0 ∙ sym place_end,
    )
    early NoMemory h = tt
    early (TooDeep place) h = absurd h
    early (UnknownName place) h = absurd h
    early (BadParameter place) h = absurd h
    early (BadAttribute place) h = absurd h
    early (BadTarget place) h = absurd h
    early (TooManyLimits place) h = absurd h
