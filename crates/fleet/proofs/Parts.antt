-- Parts of lists. Assumes nothing.
use Rattle.std.proofs.Common.{◌≡◌, ℕ, suc, List, ◌++◌, map, take, drop, sym, ap, ◌∙◌}
use Rattle.std.specs.List.{remove}
use Rattle.std.proofs.lemmas.List.{take-map, drop-map, map-append}

pub map_removed : {X Y : Type 0} (f : X → Y) (xs : List X) (i : ℕ) → map f (remove xs i) ≡ remove (map f xs) i
map_removed f xs i =
    map-append f (take i xs) (drop (suc i) xs)
    ∙ ap (λ front. front ++ map f (drop (suc i) xs)) (sym (take-map f i xs))
    ∙ ap (λ rest. take i (map f xs) ++ rest) (sym (drop-map f (suc i) xs))
