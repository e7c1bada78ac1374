-- The lines of listeners, counted and turned round.
use Rattle.std.proofs.Common.{◌≡◌, ℕ, suc, List, [], ◌∷◌, ◌++◌, filter_map, length, reverse, Option, Some, None, refl, sym, ap, ◌∙◌, append-nil}
use Rattle.std.proofs.lemmas.List.{length-reverse, reverse-append}
use Rattle.std.proofs.lemmas.List.Elements.{filter_map-append}
use Rattle.tow_model.specs.declared.attribute.Piece.{Piece}
use Rattle.tow_model.specs.declared.request.Request.{Request}
use Rattle.tow_model.specs.declared.record.Record.{Record}
use Rattle.tow_model.specs.declared.record.Listener.{Listener}
use Rattle.tow_model.specs.declared.record.Listener.TheVariants.{Leave, Log}
use Rattle.tow_model.specs.Texts.{Text}
use Rattle.tow_semantics.specs.Listeners.{at_number}
use Rattle.tow_semantics.specs.Values.{line_of}
use Rattle.tow_closing.specs.Closings.{left_to_tell, line_told}

module _ (formats : List (List Piece)) (q : Request) (x : Record) (m : ℕ) where
  abbrev told : Listener → Option Text
  told = line_told formats q x m

  -- as many lines as listeners that tell one
  lines_count : (listeners : List Listener) → length (filter_map told listeners) ≡ left_to_tell listeners
  lines_count [] = refl
  lines_count (Leave limit ∷ rest) = lines_count rest
  lines_count (Log number ∷ rest) = ap (λ n. suc n) (lines_count rest)

  -- the lines of the listeners from the last one on
  lines_turned : (listeners : List Listener) → filter_map told (reverse listeners) ≡ reverse (filter_map told listeners)
  lines_turned [] = refl
  lines_turned (Leave limit ∷ rest) =
      ap (λ (l : List Listener). filter_map told l) (reverse-append (Leave limit ∷ []) rest)
      ∙ filter_map-append told (reverse rest) (Leave limit ∷ [])
      ∙ append-nil (filter_map told (reverse rest))
      ∙ lines_turned rest
  lines_turned (Log number ∷ rest) =
      let line = line_of (at_number number formats) q x m in
      ap (λ (l : List Listener). filter_map told l) (reverse-append (Log number ∷ []) rest)
      ∙ filter_map-append told (reverse rest) (Log number ∷ [])
      ∙ ap (λ (l : List Text). l ++ line ∷ []) (lines_turned rest)
      ∙ sym (reverse-append (line ∷ []) (filter_map told rest))

  -- lines that were made in the order of the listeners, told from the last one on
  module _ (listeners : List Listener) (lines : List Text) (made : lines ≡ filter_map told listeners) where
    pub lines_in_turn : reverse lines ≡ filter_map told (reverse listeners)
    lines_in_turn = ap (λ (l : List Text). reverse l) made ∙ sym (lines_turned listeners)

    pub lines_for_each : length lines ≡ left_to_tell (reverse listeners)
    lines_for_each =
        sym (length-reverse lines) ∙ ap (λ (l : List Text). length l) lines_in_turn ∙ lines_count (reverse listeners)
