-- Texts of parts: the text of a locale is the join of its parts.
use Rattle.std.proofs.Common.{◌≡◌, ℕ, ◌+◌, ◌<◌, ◌≤◌, arith, get_or, cond, ◌||◌, List, [], ◌∷◌, ◌++◌, length, map, flat_map, refl, sym, ap, ◌∙◌, Option, Some, None, option_map, option_to_list, is_some, nat_lt, append_assoc, append-nil}
use Rattle.std.proofs.lemmas.Bool.{lt-ltb}
use Rattle.std.proofs.lemmas.List.{map-append}
use Rattle.std.proofs.lemmas.List.Concat.{flat_map-append}
use Rattle.iloc_spec_grammar.specs.Syntax.{Block, code_x, code_u, code_t, Text, join, dashes, lower, Stage, IdentifierOf, Identifier, Unicode, Transform, Fields, identifier_pieces, optional_pieces, fields_pieces, unicode_pieces, transform_pieces}
use Rattle.iloc_spec_grammar.specs.Tree.{before_t, after_t, spelled_transform}
use Rattle.iloc_spec_grammar.specs.Meaning.{Locale, Extensions}
use Rattle.iloc_spec_grammar.specs.Values.{lower_identifier, spelled_fields, printed_pieces, before_above, text, unicode_spelling, transform_spelling, other_spelling, private_spelling, extensions_spelling, identifier_text}

-- joins

pub join-nothing : join [] ≡ []
unfolding join
join-nothing = refl

-- the text of one word is that word
pub join_one : (ws : List Text) (d : Text) → 1 ≤ length ws → length ws < 2 → get_or ws 0 d ≡ join ws
unfolding join
join_one [] d l m = absurd (omega (arith, l))
join_one (w ∷ []) d l m = refl
join_one (w ∷ (v ∷ ws)) d l m = absurd (omega (arith, m))

-- the first piece, and each other after a hyphen
pub join-dashes : (p : Text) (ps : List Text) → join (p ∷ ps) ≡ p ++ dashes ps
unfolding join
join-dashes p [] = sym (append-nil p)
join-dashes p (q ∷ ps) = ap (λ l. p ++ 45 ∷ l) (join-dashes q ps)

pub dashes-append : (ps qs : List Text) → dashes (ps ++ qs) ≡ dashes ps ++ dashes qs
dashes-append ps qs = flat_map-append (λ (p : Text). 45 ∷ p) ps qs

pub join-append : (p : Text) (ps qs : List Text) → join ((p ∷ ps) ++ qs) ≡ join (p ∷ ps) ++ dashes qs
join-append p ps qs = grind (arith, join-dashes, dashes-append, append_assoc)

pub ruleset join_laws = (join-nothing, join-dashes, dashes-append, join-append)

-- a locale gives the text of its identifier, and each other piece after a hyphen
pub text_of_parts : (M : Locale) → text M ≡ identifier_text M.id ++ dashes (extensions_spelling M.extensions)
unfolding identifier_text
text_of_parts M = rw join-append

-- the pieces of an identifier in lower case

pub option_to_list-map : {X Y : Type 0} (f : X → Y) (o : Option X) →
    option_to_list (option_map f o) ≡ map f (option_to_list o)
option_to_list-map f None = refl
option_to_list-map f (Some x) = refl

pub identifier_pieces-low : {s : Stage} (i : IdentifierOf s) →
    identifier_pieces (lower_identifier i) ≡ map lower (identifier_pieces i)
identifier_pieces-low i = simp (option_to_list-map, map-append)

pub id_pieces-low : {s : Stage} (o : Option (IdentifierOf s)) →
    optional_pieces (option_map lower_identifier o) ≡ map lower (optional_pieces o)
id_pieces-low None = refl
id_pieces-low (Some i) = identifier_pieces-low i

-- each part, where it is empty and where it isn't

there : (n : ℕ) (ps : List Text) → 0 < n → ps ≡ cond (nat_lt 0 n) ps []
there n ps l = rw lt-ltb

pub unicode_spelling_is : (u : Unicode) →
    unicode_spelling u
    ≡ cond (nat_lt 0 (length u.attributes + length u.keywords)) ((code_u ∷ []) ∷ unicode_pieces u) []
unfolding unicode_spelling
unicode_spelling_is u = parts u.attributes u.keywords
  where
    parts : (ws : List Text) (ks : Fields) →
        printed_pieces (code_u, ws ++ fields_pieces ks)
        ≡ cond (nat_lt 0 (length ws + length ks)) ((code_u ∷ []) ∷ (ws ++ fields_pieces ks)) []
    parts [] [] = refl
    parts [] (k ∷ ks) = there (0 + length (k ∷ ks)) _ (omega arith)
    parts (w ∷ ws) ks = there (length (w ∷ ws) + length ks) _ (omega arith)

pub transform_spelling_is : (m : Transform) →
    transform_spelling m
    ≡ cond (is_some m.id || nat_lt 0 (length m.fields))
    ((code_t ∷ []) ∷ transform_pieces (spelled_transform m))
    []
unfolding transform_spelling
transform_spelling_is m =
    ap (λ ps. printed_pieces (code_t, ps ++ fields_pieces (spelled_fields m.fields)))
    (sym (id_pieces-low m.id))
    ∙ parts m.id m.fields
  where
    parts : (o : Option Identifier) (fs : Fields) →
        printed_pieces
        (code_t, optional_pieces (option_map lower_identifier o) ++ fields_pieces (spelled_fields fs))
        ≡ cond (is_some o || nat_lt 0 (length fs))
        ((code_t ∷ [])
        ∷ (optional_pieces (option_map lower_identifier o) ++ fields_pieces (spelled_fields fs)))
        []
    parts None [] = refl
    parts None (f ∷ fs) = there (length (f ∷ fs)) _ (omega arith)
    parts (Some i) fs = refl

pub other_spelling_is : (o : Block) →
    other_spelling o ≡ cond (nat_lt 0 (length o.1)) ((o.0 ∷ []) ∷ o.1) []
unfolding other_spelling
other_spelling_is (c, []) = refl
other_spelling_is (c, p ∷ ps) = there (length (p ∷ ps)) _ (omega arith)

pub private_spelling_is : (w : Text) (ws : List Text) →
    private_spelling (w ∷ ws) ≡ (code_x ∷ []) ∷ (w ∷ ws)
unfolding private_spelling
private_spelling_is w ws = refl

pub private_spelling_none : private_spelling [] ≡ []
unfolding private_spelling
private_spelling_none = refl

-- others up to `t`, the parts of `t` and `u`, and the others after it

pub before_above_is : (bs os : List Block) →
    before_above bs os ≡ before_t os ++ (bs ++ after_t os)
before_above_is bs [] = sym (append-nil bs)
before_above_is bs (o ∷ os) = grind (arith, before_above_is bs os)

-- the pieces of extensions whose others are split in two, the parts of `t` and `u` between them
pub spelling_around : (e : Extensions) (before after : List Block) →
    ((bs : List Block) → before_above bs e.others ≡ before ++ (bs ++ after)) →
    extensions_spelling e
    ≡ flat_map other_spelling before
    ++ (transform_spelling e.transform
    ++ (unicode_spelling e.unicode ++ (flat_map other_spelling after ++ private_spelling e.private)))
unfolding extensions_spelling transform_spelling unicode_spelling other_spelling private_spelling
spelling_around e before after split = grind (arith, flat_map-append, append-nil, append_assoc)

pub spelling_of_parts : (e : Extensions) →
    extensions_spelling e
    ≡ flat_map other_spelling (before_t e.others)
    ++ (transform_spelling e.transform
    ++ (unicode_spelling e.unicode
    ++ (flat_map other_spelling (after_t e.others) ++ private_spelling e.private)))
spelling_of_parts e = search (spelling_around, before_above_is)
