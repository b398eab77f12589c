-- The keys of each form, and the words of a filter file, as it spells them.
use Rattle.std.specs.Prelude.{ℕ, List, [], ◌∷◌, ◌++◌, codes, Option, Some, None, if◌then◌else◌}
use Rattle.std.specs.Str.{bytes_eq}
use Rattle.fx_eqs.specs.declared.mode.Mode.{Mode}
use Rattle.fx_eqs.specs.declared.mode.Mode.TheVariants as mode
use Rattle.fx_keys.specs.declared.key.Key.{Key}
use Rattle.fx_keys.specs.declared.key.Key.TheVariants as key
use Rattle.fx_files.specs.declared.forms.Form.{Form}
use Rattle.fx_files.specs.declared.forms.Form.TheVariants as form
use Rattle.fx_files.specs.declared.forms.Structure.{Structure}
use Rattle.fx_files.specs.declared.forms.Structure.TheVariants as structure

-- the keys that files of each form may have
abbrev pub shared_keys : List Key
shared_keys =
    key.Form ∷ key.InputLow ∷ key.Inputs ∷ key.Outputs ∷ key.Structure ∷ key.Rounding ∷ key.Accumulator ∷ key.Word
    ∷ key.Guards ∷ key.Fractions ∷ key.Lengths ∷ []

-- the keys of the coefficients
abbrev pub own_keys : Form → List Key
own_keys form.Tf = key.B ∷ key.A ∷ []
own_keys form.Sos = key.Sections ∷ []
own_keys form.Ss = key.MatA ∷ key.MatB ∷ key.MatC ∷ key.MatD ∷ []
own_keys form.Lattice = key.K ∷ key.V ∷ []

abbrev pub known_keys : Form → List Key
known_keys f = shared_keys ++ own_keys f

-- ---- words

abbrev pub form_text : Form → List ℕ
form_text form.Tf = codes "tf"
form_text form.Sos = codes "sos"
form_text form.Ss = codes "ss"
form_text form.Lattice = codes "lattice"

abbrev pub form_word : List ℕ → Option Form
form_word w =
    if bytes_eq w (codes "tf") then Some form.Tf else if bytes_eq w (codes "sos") then Some form.Sos
    else if bytes_eq w (codes "ss") then Some form.Ss else if bytes_eq w (codes "lattice") then Some
    form.Lattice else None

abbrev pub structure_text : Structure → List ℕ
structure_text structure.Df1 = codes "df1"
structure_text structure.Df2 = codes "df2"
structure_text structure.Df2t = codes "df2t"
structure_text structure.Fir = codes "fir"
structure_text structure.Lattice = codes "lattice"
structure_text structure.Ss = codes "ss"

abbrev pub structure_word : List ℕ → Option Structure
structure_word w =
    if bytes_eq w (codes "df1") then Some structure.Df1 else if bytes_eq w (codes "df2") then Some structure.Df2
    else if bytes_eq w (codes "df2t") then Some structure.Df2t else if bytes_eq w (codes "fir") then Some structure.Fir
    else if bytes_eq w (codes "lattice") then Some structure.Lattice else if bytes_eq w (codes "ss") then Some
    structure.Ss else None

abbrev pub mode_text : Mode → List ℕ
mode_text mode.Nearest = codes "nearest"
mode_text mode.Floor = codes "floor"

abbrev pub mode_word : List ℕ → Option Mode
mode_word w =
    if bytes_eq w (codes "nearest") then Some mode.Nearest else if bytes_eq w (codes "floor") then Some mode.Floor
    else None

-- the structure where a file names none
abbrev pub default_structure : Form → Structure
default_structure form.Tf = structure.Df1
default_structure form.Sos = structure.Df2t
default_structure form.Ss = structure.Ss
default_structure form.Lattice = structure.Lattice
