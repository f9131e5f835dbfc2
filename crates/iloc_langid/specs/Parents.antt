-- The fallback chain: from an identifier to its parent, which lacks its last part, and so on to
-- `und`. This library's rule. ICU's `uloc_getParent` takes its parents in the same way.
use Rattle.std.specs.Prelude.{◌≡◌, ◌⊎◌, ℕ, zero, suc, ◌+◌, Bool, List, [], ◌∷◌, ◌++◌, take, length, Option}
use Rattle.std.specs.Prelude.{Some, None, option_map, option_and_then, option_to_list, codes, if◌then◌else◌}
use Rattle.std.specs.Option.{option_or}
use Rattle.iloc_spec_grammar.specs.Syntax.{Text, Identifier, identifier_pieces, is_same}
use Rattle.iloc_langid.specs.Unknown.{unknown_identifier}

-- all items but the last, if there are any
abbrev pub but_last : {X : Type 0} → List X → Option (List X)
but_last [] = None
but_last (x ∷ xs) = Some (take (length xs) (x ∷ xs))

-- whether the language is `und`
abbrev pub is_unknown_language : Text → Bool
is_unknown_language language = is_same language (codes "und")

-- the same without the last variant; else without the region; else without the script; else `und`,
-- which has no parent
abbrev pub parent_of : Identifier → Option Identifier
parent_of i = option_or (option_map (λ vs. record i { variants = vs }) (but_last i.variants))
    (option_or (option_map (λ _. record i { region = None }) i.region)
    (option_or (option_map (λ _. record i { script = None }) i.script)
    (if is_unknown_language i.language then None else Some unknown_identifier)))

-- how many parts it has; `und` is none
abbrev pub part_count : Identifier → ℕ
part_count i = length i.variants + length (option_to_list i.region)
    + length (option_to_list i.script) + (if is_unknown_language i.language then 0 else 1)

-- what n steps lead to, each from a value to its parent
abbrev pub after_steps : {X : Type 0} → (X → Option X) → ℕ → X → Option X
after_steps parent zero x = Some x
after_steps parent (suc n) x = option_and_then (after_steps parent n) (parent x)

-- p is i without its last piece; or i is a language alone, and p is `und`
abbrev pub LacksLastPart : Identifier → Identifier → Type 0
LacksLastPart i p = ((w : Text) × (identifier_pieces i ≡ identifier_pieces p ++ w ∷ []))
    ⊎ ((identifier_pieces i ≡ i.language ∷ []) × (p ≡ unknown_identifier))
