-- Many spans in order.
use Rattle.std.specs.Prelude.{◌≡◌, List, [], ◌∷◌, ◌++◌, map, ⊤}
use Rattle.std.specs.BTreeMap.{values}
use Rattle.std.specs.Ordering.{nat_cmp}
use Rattle.iloc_spec_grammar.specs.Syntax.{IsAmong}
use Rattle.iloc_spans.specs.Inserting.{spans_in_order}
use Rattle.iloc_spans.specs.declared.group.Group.{Group}
use Rattle.iloc_spans.specs.declared.inserting.Inserted.{Inserted}
use Rattle.iloc_spans.specs.declared.inserting.Inserted.TheVariants.{Put, There, Full}
use Rattle.iloc_spans.specs.declared.span.Span.{Span}

-- the spans of a group
abbrev pub group_spans : Group → List Span
group_spans g = values g.tree

-- the spans were some in order; now they are these and one more, if its number is not among theirs
abbrev pub IsGrouped : Span → List Span → List Span → Inserted → Type 0
IsGrouped s old new Put = (ss : List Span) → old ≡ spans_in_order ss
    → (new ≡ spans_in_order (ss ++ (s ∷ []))) × ¬ (IsAmong nat_cmp s.word (map (λ x. x.word) ss))
IsGrouped s old new There = (ss : List Span) → old ≡ spans_in_order ss
    → (new ≡ spans_in_order (ss ++ (s ∷ []))) × IsAmong nat_cmp s.word (map (λ x. x.word) ss)
IsGrouped s old new Full = ⊤
