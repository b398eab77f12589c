-- When an entry stands in a place, by its row and what it reads.
use Rattle.std.proofs.Common.{◌≡◌, ℕ, zero, suc, ◌+◌, ◌<◌, ◌⊎◌, inl, inr, Bool, true, false, ◌&&◌, eqb, refl}
use Rattle.std.proofs.Common.{arith, sym, ap, ap₂, ◌∙◌}
use Rattle.std.proofs.lemmas.Bool.{and_from, and_parts, eq-eqb, ne_eqb, cases_eq, eqb-true}
use Rattle.fx_eqs.specs.Expanded.{NetRead}
use Rattle.fx_eqs.specs.Expanded.NetRead.{Now, Old, In}
use Rattle.fx_sif.specs.Blocks.{height, same_block, is_at}
use Rattle.fx_sif.specs.Fits.{EntryFits}
use Rattle.fx_sif.specs.Rows.{row_place, net_read}
use Rattle.fx_sif.specs.declared.parts.Block.{Block}
use Rattle.fx_sif.specs.declared.parts.Block.TheVariants.{J, K, L, M, N, P, Q, R, S}
use Rattle.fx_sif.specs.declared.parts.Entry.{Entry}
use Rattle.fx_sif.specs.declared.parts.Sizes.{Sizes}

-- ---- a block is a group of rows and a group of columns

data Group : Type 0 where
  Variables : Group
  States : Group
  Ends : Group

abbrev same_group : Group → Group → Bool
same_group Variables Variables = true
same_group States States = true
same_group Ends Ends = true
same_group _ _ = false

-- the rows belong to variables, states or outputs
abbrev row_group : Block → Group
row_group J = Variables
row_group M = Variables
row_group N = Variables
row_group K = States
row_group P = States
row_group Q = States
row_group L = Ends
row_group R = Ends
row_group S = Ends

-- the columns belong to variables, states or inputs
abbrev column_group : Block → Group
column_group J = Variables
column_group K = Variables
column_group L = Variables
column_group M = States
column_group P = States
column_group R = States
column_group N = Ends
column_group Q = Ends
column_group S = Ends

-- ---- tests

pub shifted : (n i j : ℕ) → eqb (n + i) (n + j) ≡ eqb i j
shifted n i j = by_place (cases_eq i j)
  where
    by_place : (i ≡ j) ⊎ (i ≡ j → ⊥) → eqb (n + i) (n + j) ≡ eqb i j
    by_place (inl a) = eq-eqb (n + i) (n + j) (omega (arith, a)) ∙ sym (eq-eqb i j a)
    by_place (inr a) = ne_eqb (n + i) (n + j) (λ same. a (omega (arith, same))) ∙ sym (ne_eqb i j a)

pub turned : (i j : ℕ) → eqb i j ≡ eqb j i
turned i j = by_place (cases_eq i j)
  where
    by_place : (i ≡ j) ⊎ (i ≡ j → ⊥) → eqb i j ≡ eqb j i
    by_place (inl a) = eq-eqb i j a ∙ sym (eq-eqb j i (sym a))
    by_place (inr a) = ne_eqb i j a ∙ sym (ne_eqb j i (λ same. a (sym same)))

-- ---- blocks

-- each block in turn
pub nine : (X : Block → Type 0) → X J → X K → X L → X M → X N → X P → X Q → X R → X S → (b : Block) → X b
nine X j k l m n p q r s J = j
nine X j k l m n p q r s K = k
nine X j k l m n p q r s L = l
nine X j k l m n p q r s M = m
nine X j k l m n p q r s N = n
nine X j k l m n p q r s P = p
nine X j k l m n p q r s Q = q
nine X j k l m n p q r s R = r
nine X j k l m n p q r s S = s

block-is : (a b : Block) →
    same_block a b ≡ same_group (row_group a) (row_group b) && same_group (column_group b) (column_group a)
block-is J = nine (λ b. same_block J b ≡ same_group (row_group J) (row_group b) && same_group (column_group b)
    (column_group J)) refl refl refl refl refl refl refl refl refl
block-is K = nine (λ b. same_block K b ≡ same_group (row_group K) (row_group b) && same_group (column_group b)
    (column_group K)) refl refl refl refl refl refl refl refl refl
block-is L = nine (λ b. same_block L b ≡ same_group (row_group L) (row_group b) && same_group (column_group b)
    (column_group L)) refl refl refl refl refl refl refl refl refl
block-is M = nine (λ b. same_block M b ≡ same_group (row_group M) (row_group b) && same_group (column_group b)
    (column_group M)) refl refl refl refl refl refl refl refl refl
block-is N = nine (λ b. same_block N b ≡ same_group (row_group N) (row_group b) && same_group (column_group b)
    (column_group N)) refl refl refl refl refl refl refl refl refl
block-is P = nine (λ b. same_block P b ≡ same_group (row_group P) (row_group b) && same_group (column_group b)
    (column_group P)) refl refl refl refl refl refl refl refl refl
block-is Q = nine (λ b. same_block Q b ≡ same_group (row_group Q) (row_group b) && same_group (column_group b)
    (column_group Q)) refl refl refl refl refl refl refl refl refl
block-is R = nine (λ b. same_block R b ≡ same_group (row_group R) (row_group b) && same_group (column_group b)
    (column_group R)) refl refl refl refl refl refl refl refl refl
block-is S = nine (λ b. same_block S b ≡ same_group (row_group S) (row_group b) && same_group (column_group b)
    (column_group S)) refl refl refl refl refl refl refl refl refl

abbrev number : Block → ℕ
number J = 0
number K = 1
number L = 2
number M = 3
number N = 4
number P = 5
number Q = 6
number R = 7
number S = 8

abbrev numbered : ℕ → Block
numbered zero = J
numbered (suc zero) = K
numbered (suc (suc zero)) = L
numbered (suc (suc (suc zero))) = M
numbered (suc (suc (suc (suc zero)))) = N
numbered (suc (suc (suc (suc (suc zero))))) = P
numbered (suc (suc (suc (suc (suc (suc zero)))))) = Q
numbered (suc (suc (suc (suc (suc (suc (suc zero))))))) = R
numbered _ = S

numbered-is : (b : Block) → numbered (number b) ≡ b
numbered-is J = refl
numbered-is K = refl
numbered-is L = refl
numbered-is M = refl
numbered-is N = refl
numbered-is P = refl
numbered-is Q = refl
numbered-is R = refl
numbered-is S = refl

number-is : (a b : Block) → same_block a b ≡ eqb (number a) (number b)
number-is J = nine (λ b. same_block J b ≡ eqb (number J) (number b)) refl refl refl refl refl refl refl refl refl
number-is K = nine (λ b. same_block K b ≡ eqb (number K) (number b)) refl refl refl refl refl refl refl refl refl
number-is L = nine (λ b. same_block L b ≡ eqb (number L) (number b)) refl refl refl refl refl refl refl refl refl
number-is M = nine (λ b. same_block M b ≡ eqb (number M) (number b)) refl refl refl refl refl refl refl refl refl
number-is N = nine (λ b. same_block N b ≡ eqb (number N) (number b)) refl refl refl refl refl refl refl refl refl
number-is P = nine (λ b. same_block P b ≡ eqb (number P) (number b)) refl refl refl refl refl refl refl refl refl
number-is Q = nine (λ b. same_block Q b ≡ eqb (number Q) (number b)) refl refl refl refl refl refl refl refl refl
number-is R = nine (λ b. same_block R b ≡ eqb (number R) (number b)) refl refl refl refl refl refl refl refl refl
number-is S = nine (λ b. same_block S b ≡ eqb (number S) (number b)) refl refl refl refl refl refl refl refl refl

-- blocks that are the same are equal
pub same_is : (a b : Block) → same_block a b ≡ true → a ≡ b
same_is a b e =
    let numbers : number a ≡ number b = eqb-true (number a) (number b) (sym (number-is a b) ∙ e) in
    sym (numbered-is a) ∙ ap numbered numbers ∙ numbered-is b

-- and an entry in a place has its block, row and column
pub stands_at : (b : Block) (i j : ℕ) (e : Entry) → is_at b i j e ≡ true → (e.block ≡ b) × ((e.i ≡ i) × (e.j ≡ j))
stands_at b i j e h =
    let outer = and_parts (same_block e.block b) (eqb e.i i && eqb e.j j) h in
    let inner = and_parts (eqb e.i i) (eqb e.j j) outer.1 in
    (same_is e.block b outer.0, (eqb-true e.i i inner.0, eqb-true e.j j inner.1))

pub stands_from : (b : Block) (i j : ℕ) (e : Entry) → e.block ≡ b → e.i ≡ i → e.j ≡ j → is_at b i j e ≡ true
stands_from b i j e x y z =
    rw (x, y, z) (and_from (same_block b b) (eqb i i && eqb j j) (number-is b b ∙ eq-eqb (number b) (number b) refl)
    (and_from (eqb i i) (eqb j j) (eq-eqb i i refl) (eq-eqb j j refl)))

-- ---- rows

abbrev start : Sizes → Group → ℕ
start s Variables = 0
start s States = s.t
start s Ends = s.t + s.x

abbrev size : Sizes → Group → ℕ
size s Variables = s.t
size s States = s.x
size s Ends = s.y

place-is : (s : Sizes) (b : Block) (i : ℕ) → row_place s b i ≡ start s (row_group b) + i
place-is s J i = omega arith
place-is s K i = refl
place-is s L i = refl
place-is s M i = omega arith
place-is s N i = omega arith
place-is s P i = refl
place-is s Q i = refl
place-is s R i = refl
place-is s S i = refl

height-is : (s : Sizes) (b : Block) → height s b ≡ size s (row_group b)
height-is s J = refl
height-is s K = refl
height-is s L = refl
height-is s M = refl
height-is s N = refl
height-is s P = refl
height-is s Q = refl
height-is s R = refl
height-is s S = refl

-- rows of groups are the same where the groups and the rows in them are
group_rows : (s : Sizes) (a b : Group) (i j : ℕ) → i < size s a → j < size s b →
    eqb (start s a + i) (start s b + j) ≡ same_group a b && eqb i j
group_rows s Variables Variables i j h k = shifted 0 i j
group_rows s Variables States i j h k = ne_eqb (0 + i) (s.t + j) (λ e. omega (arith, h, e))
group_rows s Variables Ends i j h k = ne_eqb (0 + i) (s.t + s.x + j) (λ e. omega (arith, h, e))
group_rows s States Variables i j h k = ne_eqb (s.t + i) (0 + j) (λ e. omega (arith, k, e))
group_rows s States States i j h k = shifted s.t i j
group_rows s States Ends i j h k = ne_eqb (s.t + i) (s.t + s.x + j) (λ e. omega (arith, h, e))
group_rows s Ends Variables i j h k = ne_eqb (s.t + s.x + i) (0 + j) (λ e. omega (arith, k, e))
group_rows s Ends States i j h k = ne_eqb (s.t + s.x + i) (s.t + j) (λ e. omega (arith, k, e))
group_rows s Ends Ends i j h k = shifted (s.t + s.x) i j

-- ---- what is read

abbrev pub same_read : NetRead → NetRead → Bool
same_read (Now i) (Now j) = eqb i j
same_read (Old i) (Old j) = eqb i j
same_read (In i) (In j) = eqb i j
same_read _ _ = false

abbrev read : Sizes → Group → ℕ → NetRead
read s Variables j = Now j
read s States j = Old (s.t + j)
read s Ends j = In j

read-is : (s : Sizes) (b : Block) (j : ℕ) → net_read s b j ≡ read s (column_group b) j
read-is s J j = refl
read-is s K j = refl
read-is s L j = refl
read-is s M j = refl
read-is s N j = refl
read-is s P j = refl
read-is s Q j = refl
read-is s R j = refl
read-is s S j = refl

group_reads : (s : Sizes) (a b : Group) (i j : ℕ) → same_read (read s a i) (read s b j) ≡ same_group a b && eqb j i
group_reads s Variables Variables i j = turned i j
group_reads s Variables States i j = refl
group_reads s Variables Ends i j = refl
group_reads s States Variables i j = refl
group_reads s States States i j = shifted s.t i j ∙ turned i j
group_reads s States Ends i j = refl
group_reads s Ends Variables i j = refl
group_reads s Ends States i j = refl
group_reads s Ends Ends i j = turned i j

-- ---- both

four : (a b c d : Bool) → (a && b) && (c && d) ≡ (a && c) && (b && d)
four true true c d = refl
four true false true d = refl
four true false false d = refl
four false b c d = refl

-- an entry is in the row of a place and reads what is read there just where it stands in that place
pub place_matches : (s : Sizes) (b : Block) (i j : ℕ) (e : Entry) → i < height s b → EntryFits s e →
    eqb (row_place s e.block e.i) (row_place s b i) && same_read (net_read s b j) (net_read s e.block e.j)
    ≡ is_at b i j e
place_matches s b i j e h fits =
    let rows = ap₂ (λ p q. eqb p q) (place-is s e.block e.i) (place-is s b i)
    ∙ group_rows s (row_group e.block) (row_group b) e.i i (rw (← height-is s e.block) fits.row)
    (rw (← height-is s b) h) in
    let reads = ap₂ (λ p q. same_read p q) (read-is s b j) (read-is s e.block e.j)
    ∙ group_reads s (column_group b) (column_group e.block) j e.j in
    ap₂ (λ p q. p && q) rows reads
    ∙ four (same_group (row_group e.block) (row_group b)) (eqb e.i i)
    (same_group (column_group b) (column_group e.block)) (eqb e.j j)
    ∙ ap (λ p. p && (eqb e.i i && eqb e.j j)) (sym (block-is e.block b))
