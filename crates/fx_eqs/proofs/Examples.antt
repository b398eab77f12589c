-- The definitions on small examples.
use Rattle.std.proofs.Common.{◌≡◌, ℕ, [], ◌∷◌, refl}
use Rattle.std.proofs.Math.IntN.{pos, negsuc}
use Rattle.fx_nums.specs.Fraction.{Fraction, one_fraction}
use Rattle.fx_nums.specs.declared.fraction.Den.TheVariants.{Ten}
use Rattle.fx_eqs.specs.Equations.{kept}
use Rattle.fx_eqs.specs.Expanded.{expanded}
use Rattle.fx_eqs.specs.Expanded.NetRead.{Now, Old, In}
use Rattle.fx_eqs.specs.Textbook.{summand, tf_terms, sos_terms, sos_equations, ss_terms, ss_equations}
use Rattle.fx_eqs.specs.Textbook.{lattice_terms, lattice_equations}
use Rattle.fx_eqs.specs.declared.term.Source.TheVariants.{Row, In as Input}

-- n / 10, and -(n + 1) / 10
abbrev tenths : ℕ → Fraction
tenths n = record { num = pos n; den = Ten 1 }

abbrev below : ℕ → Fraction
below n = record { num = negsuc n; den = Ten 1 }

tf-example : tf_terms (tenths 10 ∷ []) (tenths 10 ∷ below 4 ∷ [])
    ≡ summand 0 (tenths 10) (Input 0) 0 ∷ summand 0 (tenths 5) (Row 0) 1 ∷ []
tf-example = refl

-- a coefficient 0 is left in, and dropped by the kept terms
tf-zero : kept (tf_terms (tenths 1 ∷ tenths 0 ∷ tenths 3 ∷ []) (one_fraction ∷ []))
    ≡ summand 0 (tenths 1) (Input 0) 0 ∷ summand 0 (tenths 3) (Input 0) 2 ∷ []
tf-zero = refl

sos-example : sos_terms (tenths 1 ∷ tenths 2 ∷ tenths 3 ∷ one_fraction ∷ tenths 4 ∷ tenths 5 ∷ tenths 6 ∷
    tenths 7 ∷ tenths 8 ∷ one_fraction ∷ below 8 ∷ below 9 ∷ [])
    ≡ summand 0 (tenths 1) (Input 0) 0 ∷ summand 0 (tenths 2) (Input 0) 1 ∷ summand 0 (tenths 3) (Input 0) 2 ∷
    summand 0 (below 3) (Row 0) 1 ∷ summand 0 (below 4) (Row 0) 2
    ∷ summand 1 (tenths 6) (Row 0) 0 ∷ summand 1 (tenths 7) (Row 0) 1 ∷ summand 1 (tenths 8) (Row 0) 2 ∷
    summand 1 (tenths 9) (Row 1) 1 ∷ summand 1 (tenths 10) (Row 1) 2 ∷ []
sos-example = refl

sos-output : (sos_equations
    (one_fraction ∷ one_fraction ∷ one_fraction ∷ one_fraction ∷ one_fraction ∷ one_fraction ∷ one_fraction ∷
    one_fraction ∷ one_fraction ∷ one_fraction ∷ one_fraction ∷ one_fraction ∷ [])).outputs ≡ 1 ∷ []
sos-output = refl

ss-outputs : (ss_equations 3 1 2 [] [] [] []).outputs ≡ 3 ∷ 4 ∷ []
ss-outputs = refl

-- two states, one input, one output
ss-example : ss_terms 2 1 1 (tenths 1 ∷ tenths 2 ∷ tenths 3 ∷ tenths 4 ∷ []) (tenths 5 ∷ tenths 6 ∷ [])
    (tenths 7 ∷ tenths 8 ∷ []) (tenths 9 ∷ [])
    ≡ summand 0 (tenths 1) (Row 0) 1 ∷ summand 0 (tenths 2) (Row 1) 1 ∷ summand 0 (tenths 5) (Input 0) 0
    ∷ summand 1 (tenths 3) (Row 0) 1 ∷ summand 1 (tenths 4) (Row 1) 1 ∷ summand 1 (tenths 6) (Input 0) 0
    ∷ summand 2 (tenths 7) (Row 0) 1 ∷ summand 2 (tenths 8) (Row 1) 1 ∷ summand 2 (tenths 9) (Input 0) 0 ∷ []
ss-example = refl

-- rows f1, f0, g1, g2, y
lattice-example : lattice_terms (tenths 1 ∷ tenths 2 ∷ []) (tenths 3 ∷ tenths 4 ∷ tenths 5 ∷ [])
    ≡ summand 0 one_fraction (Input 0) 0 ∷ summand 0 (below 1) (Row 2) 1 ∷ summand 1 one_fraction (Row 0) 0 ∷
    summand 1 (below 0) (Row 1) 1
    ∷ summand 2 (tenths 1) (Row 1) 0 ∷ summand 2 one_fraction (Row 1) 1 ∷ summand 3 (tenths 2) (Row 0) 0 ∷
    summand 3 one_fraction (Row 2) 1
    ∷ summand 4 (tenths 3) (Row 1) 0 ∷ summand 4 (tenths 4) (Row 2) 0 ∷ summand 4 (tenths 5) (Row 3) 0 ∷ []
lattice-example = refl

lattice-output : (lattice_equations (one_fraction ∷ one_fraction ∷ []) []).outputs ≡ 4 ∷ []
lattice-output = refl

lattice-gain : lattice_terms [] (tenths 3 ∷ []) ≡ summand 0 (tenths 3) (Input 0) 0 ∷ []
lattice-gain = refl

-- y0 = u(k-2) - 0.5 y0(k-1) and y1 = y0 + 0.3 y1(k-3): the input is held twice, and row 1 twice
expanded-example : expanded (record {
  rows = 2;
  inputs = 1;
  terms =
      summand 0 one_fraction (Input 0) 2 ∷ summand 0 (below 4) (Row 0) 1 ∷ summand 1 one_fraction (Row 0) 0 ∷
      summand 1 (tenths 3) (Row 1) 3 ∷ [];
  outputs = 1 ∷ [];
})
    ≡ (record { coef = one_fraction; from = In 0 } ∷ [])
    ∷ (record { coef = one_fraction; from = Old 0 } ∷ [])
    ∷ (record { coef = one_fraction; from = Old 1 } ∷ record { coef = below 4; from = Old 2 } ∷ [])
    ∷ (record { coef = one_fraction; from = Now 2 } ∷ record { coef = tenths 3; from = Old 5 } ∷ [])
    ∷ (record { coef = one_fraction; from = Old 3 } ∷ [])
    ∷ (record { coef = one_fraction; from = Old 4 } ∷ [])
    ∷ []
expanded-example = refl
