-- Rows that are empty, and stay so where another row is changed.
use Rattle.std.proofs.Common.{◌≡◌, ℕ, ◌<◌, refl, arith, ◌∙◌}
use Rattle.std.proofs.lemmas.Bool.{and_left, cond-false, ne_eqb}
use Rattle.fx_nums.specs.Fraction.{Fraction}
use Rattle.fx_mat.specs.Entries.{put}
use Rattle.fx_net.specs.Net.{Net, empty_net, put_input}
use Rattle.fx_net.specs.Rows.{AreEmpty}

pub new_rows_are_empty : (at count n : ℕ) → AreEmpty at count (empty_net n)
new_rows_are_empty at count n =
    record { now = λ i j h k. refl; old = λ i j h k. refl; input = λ i j h k. refl; class = λ i h k. refl }

other_row : (p q : ℕ) (c : Fraction) (entries : ℕ → ℕ → Fraction) (i j : ℕ) → (i ≡ p → ⊥) →
    put p q c entries i j ≡ entries i j
other_row p q c entries i j ne = cond-false _ _ _ (and_left _ _ (ne_eqb i p ne))

pub input_before : (at count p q : ℕ) (c : Fraction) (net : Net) → p < at → AreEmpty at count net →
    AreEmpty at count (put_input p q c net)
input_before at count p q c net l e =
    record {
      now = e.now;
      old = e.old;
      input = λ i j h k.
          other_row p q _ net.input i j (λ same. omega arith) ∙ e.input i j h k;
      class = e.class;
    }
