-- The words that a collector holds, by how they are kept.
use Rattle.std.specs.Prelude.{◌≡◌, ℕ, ◌<◌, true, List, length}
use Rattle.iloc_spec_grammar.specs.Syntax.{Text, word_cmp}
use Rattle.iloc_spec_grammar.specs.Meaning.{set_of}
use Rattle.iloc_spec_grammar.specs.Values.{StrictlyAscends}
use Rattle.iloc_word_list.specs.declared.word_collector.Collected.{Collected}
use Rattle.iloc_word_list.specs.declared.word_collector.Collected.TheVariants.{Four, Many}

-- the words
abbrev pub collected_words : {K : Type 0} {N : ℕ} → Collected K N → List Text
collected_words (Four set) = set
collected_words (Many words ascend) = words.items

-- a set of four, or more than four different ones, which ascend if that is said
abbrev pub IsCollected : {K : Type 0} {N : ℕ} → Collected K N → Type 0
IsCollected (Four set) = StrictlyAscends word_cmp set × (length set ≡ 4)
IsCollected (Many words ascend) =
    (4 < length (set_of words.items)) × (ascend ≡ true → StrictlyAscends word_cmp words.items)
