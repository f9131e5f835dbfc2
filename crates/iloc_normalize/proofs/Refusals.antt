-- Whether a text is refused as a data locale.
use Rattle.std.proofs.Common.{◌≡◌, ◌⊎◌, inl, inr, ◌↔◌, Bool, false, IsTrue, length, take, Option, Some, None, IfSome, Ok, refl, subst, arith}
use Rattle.std.proofs.lemmas.List.{take_all}
use Rattle.iloc_spec_grammar.specs.Syntax.{Text, languages}
use Rattle.iloc_spec_grammar.specs.Meaning as faults
use Rattle.iloc_spec_grammar.specs.Meaning.{Fault}
use Rattle.iloc_spec_grammar.proofs.RawLaws.{languages_table}
use Rattle.iloc_spec_parts.specs.DataComputing.{data_result}
use Rattle.iloc_spec_parts.specs.DataLocales.{DataLocale, DataMeans, HasDataFault}
use Rattle.iloc_spec_parts.proofs.DataLaws.{data_apart}
use Rattle.iloc_subtags.specs.declared.parse_error.ParseError.{ParseError}
use Rattle.iloc_subtags.specs.declared.parse_error.ParseError.TheVariants as errors
use Rattle.iloc_outline.specs.Outlines.{BeginsWithLanguage}
use Rattle.iloc_normalize.specs.Answered.{HasRefusal}
use Rattle.iloc_normalize.specs.Data.{IsDataRead}
use Rattle.iloc_normalize.specs.declared.Mode.TheVariants as modes
use Rattle.iloc_normalize.specs.declared.data.Data.{Data}
use Rattle.iloc_normalize.specs.declared.data.Data.TheVariants as datas
use Rattle.iloc_normalize.specs.declared.data.DataHead.{DataHead}
use Rattle.iloc_normalize.specs.declared.subdivisions.SubdivisionValue.{SubdivisionValue}
use Rattle.iloc_normalize.proofs.FrontAnswers.{data_meant, unbegun_refused}

-- a data locale is meant
abbrev pub IsMeant : Text → Type 0
IsMeant t = (d : DataLocale) × DataMeans languages t d

-- what is said of a text is so: that nothing refuses it, or why it is refused
abbrev pub IsRefusedBy : Text → Option ParseError → Type 0
IsRefusedBy t o = ((o ≡ None) ↔ IsMeant t) × IfSome o (HasRefusal modes.Data t)

-- a refusal is of a fault
fault_in : (t : Text) (e : ParseError) → HasRefusal modes.Data t e →
    (f : Fault) × HasDataFault languages t f
fault_in t errors.InvalidLanguage h = (faults.InvalidLanguage, h)
fault_in t errors.InvalidSubtag h = (faults.InvalidSubtag, h)
fault_in t errors.InvalidExtension h = (faults.InvalidExtension, h)
fault_in t errors.DuplicatedExtension h = (faults.DuplicatedExtension, h)
fault_in t errors.OutOfMemory h = absurd h

-- so nothing is meant
refused_not : (t : Text) (e : ParseError) → HasRefusal modes.Data t e → ¬ (IsMeant t)
refused_not t e h m = let f = fault_in t e h in data_apart languages_table t m.0 f.0 m.1 f.1

-- ---- what is read of all its bytes

take_whole : (t : Text) → take (length t) t ≡ t
take_whole t = take_all (length t) t (omega arith)

read_meant : (t : Text) (d : DataLocale) → data_result languages (take (length t) t) ≡ Ok d →
    IsRefusedBy t None
read_meant t d e =
    let m = subst (λ s. DataMeans languages s d) (take_whole t) (data_meant (take (length t) t) d e) in
    ((λ n. (d, m), λ x. refl), tt)

pub read_accepted : (t : Text) (r : Data) → IsDataRead t (length t) r →
    ((h : DataHead) × (r ≡ datas.Head h)) ⊎ ((h : DataHead) × (v : SubdivisionValue)
    × (r ≡ datas.Named h v)) →
    IsRefusedBy t None
read_accepted t r is (inl x) = let n = subst (IsDataRead t (length t)) x.1 is in read_meant t n.0 n.1
read_accepted t r is (inr x) = let n = subst (IsDataRead t (length t)) x.2 is in read_meant t n.0 n.1

pub read_refused : (t : Text) (e : ParseError) → IsDataRead t (length t) (datas.Refused e) →
    IsRefusedBy t (Some e)
read_refused t e r = grind (arith, take_whole, refused_not)

pub unbegun : (t : Text) (begins : Bool) → IsTrue begins ↔ BeginsWithLanguage (take (length t) t) →
    begins ≡ false → IsRefusedBy t (Some errors.InvalidLanguage)
unbegun t begins is none = search (read_refused, unbegun_refused)
