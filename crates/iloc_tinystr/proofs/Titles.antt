-- The title of a text.
use Rattle.std.proofs.Common.{◌≡◌, ℕ, List, ◌++◌, length, map, take, drop, arith}
use Rattle.std.proofs.lemmas.List.{length-map}
use Rattle.std.specs.Char.{to_ascii_lowercase, to_ascii_uppercase}

-- the first byte in upper case, and the others in lower case
abbrev pub title : List ℕ → List ℕ
title text = map to_ascii_uppercase (take 1 text) ++ map to_ascii_lowercase (drop 1 text)

pub length-title : (text : List ℕ) → length (title text) ≡ length text
length-title text = grind (arith, length-map)
