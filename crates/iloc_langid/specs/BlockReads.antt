-- What the pieces after a singleton are read as.
use Rattle.std.specs.Prelude.{ℕ, ◌&&◌, nat_le, List, [], ◌++◌, length, if◌then◌else◌, Option, Result, Ok, Err}
use Rattle.std.specs.List.{list_all}
use Rattle.iloc_spec_grammar.specs.Syntax.{Text, Attribute, is_word, first_piece}
use Rattle.iloc_spec_grammar.specs.Meaning.{normal_values, Fault}
use Rattle.iloc_spec_grammar.specs.Reading.{first_item}
use Rattle.iloc_spec_grammar.specs.Meaning as faults
use Rattle.iloc_spec_parts.specs.SmallComputing.{is_small_block, keyword_read, block_fault}
use Rattle.iloc_langid.specs.SmallLocaleReads.{Keyword}
use Rattle.iloc_subtags.specs.declared.parse_error.ParseError.{ParseError}
use Rattle.iloc_subtags.specs.declared.parse_error.ParseError.TheVariants.{InvalidSubtag, InvalidExtension}
use Rattle.iloc_subtags.specs.Judging.{error_of}

-- the same answer, a fault by its refusal
abbrev pub answer_of : {X : Type 0} → Result X Fault → Result X ParseError
answer_of (Ok x) = Ok x
answer_of (Err f) = Err (error_of f)

-- the keyword that the pieces after a singleton are, which are all that follows it; or the fault of
-- this block
unfoldable pub block_result : ℕ → List Text → Result Keyword Fault
block_result c ps =
    if is_small_block (c, ps) [] then Ok (keyword_read ps) else Err (block_fault (c, ps))

-- why no key stands first
abbrev pub refusal_without_key : List Text → ParseError
refusal_without_key ps =
    if is_word Attribute (first_piece ps) then InvalidSubtag else InvalidExtension

-- the one value besides `true`, of some that were read and those of the pieces
unfoldable pub value_result : List Text → List Text → Result (Option Text) Fault
value_result ws ps =
    if list_all (is_word Attribute) ps && nat_le (length (ws ++ normal_values ps)) 1
    then Ok (first_item (ws ++ normal_values ps)) else Err faults.InvalidSubtag
