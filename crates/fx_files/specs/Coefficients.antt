-- The coefficients of a filter.
use Rattle.std.specs.Prelude.{ℕ, List, ◌++◌, Option, Some, None}
use Rattle.fx_nums.specs.Fraction.{Fraction}
use Rattle.fx_keys.specs.declared.key.Key.{Key}
use Rattle.fx_keys.specs.declared.key.Key.TheVariants as key
use Rattle.fx_files.specs.declared.forms.Form.{Form}
use Rattle.fx_files.specs.declared.forms.Form.TheVariants as form

-- the lists of each form: b and a; the sections, one behind the other; the count of states and A, B, C, D, row after
-- row; k and v
pub data Coefficients : Type 0 where
  Tf : List Fraction → List Fraction → Coefficients
  Sos : List Fraction → Coefficients
  Ss : ℕ → List Fraction → List Fraction → List Fraction → List Fraction → Coefficients
  Lattice : List Fraction → List Fraction → Coefficients

abbrev pub form_of : Coefficients → Form
form_of (Tf b a) = form.Tf
form_of (Sos sections) = form.Sos
form_of (Ss n A B C D) = form.Ss
form_of (Lattice k v) = form.Lattice

-- all coefficients, list after list
abbrev pub coefficients_of : Coefficients → List Fraction
coefficients_of (Tf b a) = b ++ a
coefficients_of (Sos sections) = sections
coefficients_of (Ss n A B C D) = A ++ (B ++ (C ++ D))
coefficients_of (Lattice k v) = k ++ v

-- the list of a key, where the form has it
abbrev pub list_of : Key → Coefficients → Option (List Fraction)
list_of key.B (Tf b a) = Some b
list_of key.A (Tf b a) = Some a
list_of key.Sections (Sos sections) = Some sections
list_of key.MatA (Ss n A B C D) = Some A
list_of key.MatB (Ss n A B C D) = Some B
list_of key.MatC (Ss n A B C D) = Some C
list_of key.MatD (Ss n A B C D) = Some D
list_of key.K (Lattice k v) = Some k
list_of key.V (Lattice k v) = Some v
list_of _ _ = None
