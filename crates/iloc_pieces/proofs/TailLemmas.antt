-- The table of what may follow a language.
use Rattle.std.proofs.Common.{◌≡◌, inl, ℕ, zero, suc, ◌+◌, ◌<◌, Bool, true, false, List, [], ◌∷◌, map, get_or, replicate, refl, arith}
use Rattle.iloc_pieces.specs.PlainShape.{script_len, region_len, region_places, code_places, script_places, row}
use Rattle.iloc_pieces.specs.Plain.{ShapeOf, MayHaveShape}
use Rattle.iloc_pieces.specs.declared.tail.Place.{Place}
use Rattle.iloc_pieces.specs.declared.tail.Tail.{Tail}

abbrev tail : List Place → Bool → ℕ → Tail
tail ps s r = record {
  mask = map (λ p. p.mask) (row ps);
  least = map (λ p. p.least) (row ps);
  span = map (λ p. p.span) (row ps);
  normal = map (λ p. p.normal) (row ps);
  has_script = s;
  region = r;
}

abbrev no_tail : Tail
no_tail = record {
  mask = replicate 24 0;
  least = replicate 24 1;
  span = replicate 24 0;
  normal = replicate 24 0;
  has_script = false;
  region = 0;
}

abbrev tails : List Tail
tails = tail [] false 0 ∷ no_tail ∷ no_tail ∷ tail region_places false 2 ∷ tail code_places false 3
    ∷ tail (script_places []) true 0 ∷ no_tail ∷ no_tail
    ∷ tail (script_places region_places) true 2 ∷ tail (script_places code_places) true 3 ∷ no_tail ∷ no_tail
    ∷ no_tail ∷ no_tail ∷ no_tail ∷ no_tail ∷ []

shaped : (m : ℕ) (ps : List Place) (s : Bool) (r : ℕ) → script_len s + region_len r ≡ m → ShapeOf s r ps →
    MayHaveShape m (tail ps s r)
shaped m ps s r long shape = grind arith

pub each_tail : (d : Tail) (k : ℕ) → k < 16 → MayHaveShape k (get_or tails k d)
each_tail d zero l = shaped 0 [] false 0 refl ShapeOf.language
each_tail d (suc zero) l = inl refl
each_tail d (suc (suc zero)) l = inl refl
each_tail d (suc (suc (suc zero))) l = shaped 3 region_places false 2 refl ShapeOf.region
each_tail d (suc (suc (suc (suc zero)))) l = shaped 4 code_places false 3 refl ShapeOf.code
each_tail d (suc (suc (suc (suc (suc zero))))) l = shaped 5 (script_places []) true 0 refl ShapeOf.script
each_tail d (suc (suc (suc (suc (suc (suc zero)))))) l = inl refl
each_tail d (suc (suc (suc (suc (suc (suc (suc zero))))))) l = inl refl
each_tail d (suc (suc (suc (suc (suc (suc (suc (suc zero)))))))) l =
    shaped 8 (script_places region_places) true 2 refl ShapeOf.script_region
each_tail d (suc (suc (suc (suc (suc (suc (suc (suc (suc zero))))))))) l =
    shaped 9 (script_places code_places) true 3 refl ShapeOf.script_code
each_tail d (suc (suc (suc (suc (suc (suc (suc (suc (suc (suc zero)))))))))) l = inl refl
each_tail d (suc (suc (suc (suc (suc (suc (suc (suc (suc (suc (suc zero))))))))))) l = inl refl
each_tail d (suc (suc (suc (suc (suc (suc (suc (suc (suc (suc (suc (suc zero)))))))))))) l = inl refl
each_tail d (suc (suc (suc (suc (suc (suc (suc (suc (suc (suc (suc (suc (suc zero))))))))))))) l = inl refl
each_tail d (suc (suc (suc (suc (suc (suc (suc (suc (suc (suc (suc (suc (suc (suc zero)))))))))))))) l =
    inl refl
each_tail d (suc (suc (suc (suc (suc (suc (suc (suc (suc (suc (suc (suc (suc (suc (suc zero))))))))))))))) l =
    inl refl
each_tail d (suc (suc (suc (suc (suc (suc (suc (suc (suc (suc (suc (suc (suc (suc (suc (suc k))))))))))))))))
    l = absurd (omega arith)
