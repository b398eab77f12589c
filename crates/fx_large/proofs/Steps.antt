-- Steps of the state, one after another.
use Rattle.std.proofs.Common.{◌≡◌, ℕ, zero, suc, ◌+◌, ◌*◌, refl, ap, subst, arith}
use Rattle.fx_large.specs.Draws.{next_state, state_after}

-- m steps after n steps
pub state_after-add : (m n s : ℕ) → state_after m (state_after n s) ≡ state_after (n + m) s
unfolding state_after
state_after-add zero n s = let e : n + 0 ≡ n = omega arith in rw e refl
state_after-add (suc m) n s =
    let e : n + suc m ≡ suc (n + m) = omega arith in rw e (ap next_state (state_after-add m n s))

-- five more
pub five_more : (i s : ℕ) → state_after 5 (state_after (5 * i) s) ≡ state_after (5 * (i + 1)) s
five_more i s =
    let e : 5 * i + 5 ≡ 5 * (i + 1) = omega arith in
    subst (λ n. state_after 5 (state_after (5 * i) s) ≡ state_after n s) e (state_after-add 5 (5 * i) s)

-- one more
pub one_more : (n s : ℕ) → state_after 1 (state_after n s) ≡ state_after (suc n) s
unfolding state_after
one_more n s = refl
