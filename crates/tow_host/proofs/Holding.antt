-- What is held of folders and of logs, as what they show.
use Rattle.std.proofs.Common.{◌≡◌, List, [], ◌∷◌, map, refl}
use Rattle.std.proofs.lemmas.Simd.{map-map}
use Rattle.tow_host.specs.Held.{parts_held}

-- the parts that are held show what was handed back, if there was any, and else what was held
pub shows_held : {A B : Type 0} (shows : A → B) (given held : List A) → map shows (parts_held given held) ≡ parts_held (map shows given) (map shows held)
shows_held shows [] held = refl
shows_held shows (part ∷ rest) held = refl

-- the same of what is seen of them
pub shows_seen : {A B C : Type 0} (shows : B → C) (seen : A → B) (given held : List A)
    → map shows (map seen (parts_held given held)) ≡ parts_held (map (λ a. shows (seen a)) given) (map shows (map seen held))
shows_seen shows seen [] held = refl
shows_seen shows seen (part ∷ rest) held = map-map shows seen (part ∷ rest)
