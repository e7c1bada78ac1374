-- From the goals to the reader.
use Rattle.std.specs.Prelude.{◌≡◌, ◌↔◌, ℕ, Bool, List, [], ◌∷◌, ◌++◌, map, Result, Ok, Err, OnOk, IfErr, Option, Some, None, IfSome, IfNone}
use Rattle.std.proofs.Common.{refl, sym, ◌∙◌, ap, subst, append_assoc}
use Rattle.std.proofs.lemmas.List.{append-nil, map-append}
use Rattle.tow_language.specs.Symbols.{Symbol}
use Rattle.tow_fit.specs.declared.fault.ParseFault.{ParseFault}
use Rattle.tow_fit.specs.declared.fault.ParseFault.TheVariants.{Unexpected, TooDeep, UnknownName, BadParameter, BadAttribute, BadTarget, TooManyLimits, NoMemory}
use Rattle.tow_parse.specs.declared.goal.Goal.{Goal}
use Rattle.tow_parse.specs.declared.look.Look.{Look}
use Rattle.tow_parse.specs.declared.part.Part.{Part}
use Rattle.tow_parse.specs.declared.state.State.{State}
use Rattle.tow_parse.specs.Follows.{Leads, Follows}
use Rattle.tow_parse.specs.Looks.{Shows}
use Rattle.tow_parse.specs.Moved.{Same, Moved, Passed}
use Rattle.tow_parse.specs.Moves.{told, Takes, Passes, Stops}
use Rattle.tow_parse.specs.Parts.{RawPart, raw_part}
use Rattle.tow_parse.specs.Shape.{Shaped}

lead : (d : ℕ) (gs hs : List Goal) (free then : Bool) (xs ys : List Symbol) (out more all : List RawPart) → Same d gs free xs hs then ys more →
    Leads d gs free out xs all ↔ Leads d hs then (out ++ more) ys all
lead d gs hs free then xs ys out more all same = (
  λ (rs, w, t, e). let f = same.forth rs w t in (f.0, f.1, f.2, append_assoc out more _ ∙ ap (λ k. out ++ k) (sym f.3) ∙ e),
  λ (ss, w, t, e). let f = same.back ss w t in (f.0, f.1, f.2, ap (λ k. out ++ k) f.3 ∙ sym (append_assoc out more _) ∙ e),
)

pub told_none : (old new : State) → new.parts ≡ old.parts → told new ≡ told old ++ []
told_none old new e = ap (map raw_part) e ∙ sym (append-nil (told old))

pub told_one : (old new : State) (p : Part) → new.parts ≡ old.parts ++ p ∷ [] → told new ≡ told old ++ raw_part p ∷ []
told_one old new p e = ap (map raw_part) e ∙ map-append raw_part old.parts (p ∷ [])

module _ (gs hs : List Goal) (then : Bool) (more : List RawPart) (old new : State) (free : new.free ≡ then) (parts : told new ≡ told old ++ more) where
  pub taken : new.goals ≡ hs → (x : Symbol) → Moved gs old.free x hs then more → Takes gs old x new
  taken goals x m = record {
    shaped = rw goals m.shaped;
    leads = λ d xs all. rw (goals, free, parts) (lead d gs hs old.free then (x ∷ xs) xs (told old) more all (m.same d xs));
  }

  pub passed : (look : Look) → Passed gs old.free look hs then more → Passes gs old look hs new
  passed look m = record {
    shaped = m.shaped;
    leads = λ d xs all sees. rw (free, parts) (lead d gs hs old.free then xs xs (told old) more all (m.same d xs sees));
  }

both : {A B C : Type 0} → A ↔ B → B ↔ C → A ↔ C
both f g = (λ a. g.0 (f.0 a), λ c. f.1 (g.1 c))

pub passes_same : (gs : List Goal) (old : State) (look : Look) → Shaped gs → Passes gs old look gs old
passes_same gs old look shape = record { shaped = shape; leads = λ d xs all sees. (λ a. a, λ a. a) }

module _ (gs hs : List Goal) (old mid : State) (look : Look) (first : Passes gs old look hs mid) where
  pub passes_passes : (ks : List Goal) (new : State) → Passes hs mid look ks new → Passes gs old look ks new
  passes_passes ks new p = record { shaped = p.shaped; leads = λ d xs all sees. both (first.leads d xs all sees) (p.leads d xs all sees) }

  module _ (x : Symbol) (shows : Shows look x.sign) where
    pub passes_takes : (new : State) → Takes hs mid x new → Takes gs old x new
    passes_takes new t = record { shaped = t.shaped; leads = λ d xs all. both (first.leads d (x ∷ xs) all shows) (t.leads d xs all) }

    follows : (d : ℕ) (xs : List Symbol) → Follows d gs old.free (x ∷ xs) → Follows d hs mid.free (x ∷ xs)
    follows d xs (rs, w, a) = let m = (first.leads d (x ∷ xs) _ shows).0 (rs, w, a, refl) in (m.0, m.1, m.2)

    followed : (d : ℕ) (xs : List Symbol) → Follows d hs mid.free (x ∷ xs) → Follows d gs old.free (x ∷ xs)
    followed d xs (rs, w, a) = let m = (first.leads d (x ∷ xs) _ shows).1 (rs, w, a, refl) in (m.0, m.1, m.2)

    pub passes_stops : (e : ParseFault) → Stops hs mid x e → Stops gs old x e
    passes_stops (Unexpected place) s = (s.0, λ d xs a. s.1 d xs (follows d xs a))
    passes_stops (TooDeep place) s = (s.0, (λ xs a. s.1 xs (follows 0 xs a)), (s.2.0, s.2.1, followed 1 s.2.0 s.2.2))
    passes_stops NoMemory s = tt
    passes_stops (UnknownName place) s = s
    passes_stops (BadParameter place) s = s
    passes_stops (BadAttribute place) s = s
    passes_stops (BadTarget place) s = s
    passes_stops (TooManyLimits place) s = s

-- what follows from what a call ensures
pub ok_then : (r : Result (Unit {0}) ParseFault) (A B : Type 0) → (A → B) → OnOk r A → OnOk r B
ok_then (Ok u) A B f a = f a
ok_then (Err e) A B f a = a

pub err_then : (r : Result (Unit {0}) ParseFault) (P Q : ParseFault → Type 0) → ((e : ParseFault) → P e → Q e) → IfErr r P → IfErr r Q
err_then (Ok u) P Q f a = a
err_then (Err e) P Q f a = f e a

pub some_then : (next : Option Goal) (P Q : Goal → Type 0) → ((g : Goal) → P g → Q g) → IfSome next P → IfSome next Q
some_then None P Q f a = a
some_then (Some g) P Q f a = f g a

pub none_then : (next : Option Goal) (A B : Type 0) → (A → B) → IfNone next A → IfNone next B
none_then None A B f a = f a
none_then (Some g) A B f a = a

-- a state with the same parts and the same last token
passes_as : (gs hs : List Goal) (old mid new : State) (look : Look) → Passes gs old look hs mid → new.free ≡ mid.free → new.parts ≡ mid.parts → Passes gs old look hs new
passes_as gs hs old mid new look p free parts = record {
  shaped = p.shaped;
  leads = λ d xs all sees.
      subst (λ b. Leads d gs old.free (told old) xs all ↔ Leads d hs b (told new) xs all) (sym free)
      (subst (λ t. Leads d gs old.free (told old) xs all ↔ Leads d hs mid.free t xs all) (sym (ap (map raw_part) parts)) (p.leads d xs all sees));
}

pub pass_on : (gs : List Goal) (old l mid : State) (look : Look) (goal : Goal) (rest hs : List Goal) (new : State) → Passes (goal ∷ rest) mid look hs new →
    Passes gs old look l.goals l → l.goals ≡ goal ∷ rest → mid.free ≡ l.free → mid.parts ≡ l.parts → Passes gs old look hs new
pass_on gs old l mid look goal rest hs new p q e free parts =
    passes_passes gs (goal ∷ rest) old mid look (passes_as gs (goal ∷ rest) old l mid look (subst (λ k. Passes gs old look k l) e q) free parts) hs new p

pub pass_empty : (gs : List Goal) (old l new : State) (look : Look) → Passes gs old look l.goals l → l.goals ≡ [] → new.free ≡ l.free → new.parts ≡ l.parts → Passes gs old look [] new
pass_empty gs old l new look q e free parts = passes_as gs [] old l new look (subst (λ k. Passes gs old look k l) e q) free parts
