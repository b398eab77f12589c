-- What the pieces read so far are of a file.
use Rattle.std.proofs.Common.{◌≡◌, ◌⊎◌, inl, inr, ℕ, ◌+◌, List, [], ◌++◌, length, take, drop, arith}
use Rattle.std.proofs.Common.{ap, sym, subst, ◌∙◌, Option, Some, None, IsSomeAnd}
use Rattle.std.specs.FinMap.{get}
use Rattle.std.proofs.Math.Seq.{take-add}
use Rattle.std.proofs.lemmas.List.{length-take, length-append}
use Rattle.fx_io.specs.Shelf.{Files, ReadsPiece, IsPiece}
use Rattle.fx_tool.specs.Reading.{SoFar}

abbrev Beginning : List ℕ → Option (List ℕ) → Type 0
Beginning bytes o = IsSomeAnd o (λ content. bytes ≡ take (length bytes) content)

abbrev Piece : ℕ → List ℕ → ℕ → Option (List ℕ) → Type 0
Piece from buffer n o = IsSomeAnd o (λ content. IsPiece content from buffer n)

-- one piece more is still the beginning
piece_more : (bytes content buffer : List ℕ) (n : ℕ) → bytes ≡ take (length bytes) content →
    IsPiece content (length bytes) buffer n → bytes ++ take n buffer
    ≡ take (length (bytes ++ take n buffer)) content
piece_more bytes content buffer n b p =
    let whole : bytes ++ take n buffer ≡ take (length bytes + n) content =
    ap (λ x. bytes ++ x) p.bytes ∙ ap (λ x. x ++ take n (drop (length bytes) content)) b
    ∙ sym (take-add (length bytes) n content) in
    let count : length (take n (drop (length bytes) content)) ≡ n =
    length-take n (drop (length bytes) content) ∙ omega (arith, p.inside) in
    let len : length (bytes ++ take n buffer) ≡ length bytes + n =
    length-append bytes (take n buffer) ∙ ap (λ x. length bytes + x) (ap length p.bytes ∙ count) in
    whole ∙ ap (λ k. take k content) (sym len)

nothing : (bytes content : List ℕ) → bytes ≡ [] → bytes ≡ take (length bytes) content
nothing bytes content e = e ∙ ap (λ b. take (length b) content) (sym e)

begin_more : (bytes buffer : List ℕ) (n : ℕ) (o : Option (List ℕ)) → (bytes ≡ []) ⊎ Beginning bytes o →
    Piece (length bytes) buffer n o → Beginning (bytes ++ take n buffer) o
begin_more bytes buffer n None b p = absurd p
begin_more bytes buffer n (Some content) (inl e) p = piece_more bytes content buffer n (nothing bytes content e) p
begin_more bytes buffer n (Some content) (inr b) p = piece_more bytes content buffer n b p

pub so_far_more : (files : Option Files) (name bytes buffer : List ℕ) (n : ℕ) → SoFar files name bytes →
    ReadsPiece files name (length bytes) buffer n → SoFar files name (bytes ++ take n buffer)
so_far_more None name bytes buffer n b p = p
so_far_more (Some files) name bytes buffer n b p = inr (begin_more bytes buffer n (get files name) b p)

-- the same as the code has them
pub more_at : (files : Option Files) (name bytes buffer new : List ℕ) (from n : ℕ) → from ≡ length bytes →
    ReadsPiece files name from buffer n → new ≡ bytes ++ take n buffer → SoFar files name bytes →
    SoFar files name new
more_at files name bytes buffer new from n at piece is so_far =
    let P : ℕ → Type 0 = λ k. ReadsPiece files name k buffer n in
    rw is (so_far_more files name bytes buffer n so_far (subst P at piece))
