-- The records of plain lines, as `csv` reads them.
use Rattle.std.proofs.Common.{◌≡◌, ◌+◌, ◌-◌, ◌≤◌, ◌<◌, ◌==◌, ◌∙◌, ℕ, zero, suc, ℤ, pos, false, List, []}
use Rattle.std.proofs.Common.{◌∷◌, ◌++◌, length, get_or, Some, refl, sym, ap, arith, append_assoc, inl, inr, subst}
use Rattle.std.proofs.Common.{length-append}
use Rattle.std.proofs.Common.{◌⊎◌, append-nil, eq-zero-or-pos, length-set}
use Rattle.std.proofs.Math.ListN.{set}
use Rattle.std.specs.List.{AllByRecursion}
use Rattle.std.proofs.lemmas.Bool.{cases_Bool, eqb-true, ne_eqb}
use Rattle.csv.specs.Machine.{line_feed, next_record}
use Rattle.csv.specs.Reading.{default_config, records, records_from, strip_bom}
use Rattle.csv.specs.declared.parser.State.{State}
use Rattle.csv.specs.declared.parser.State.TheVariants as st
use Rattle.fx_code.specs.Code.{Code}
use Rattle.fx_code.specs.Inputs.{IsMoment}
use Rattle.fx_math.specs.Residue.{FitsBits}
use Rattle.fx_sim.specs.Fields.{IsField}
use Rattle.fx_sim.proofs.RecordsLeft.{records-more, same_records}
use Rattle.fx_sim.specs.Plain.{comma, IsPlain, BeginsWithWord, FirstRecord, line_at}

-- ---- one field

-- a plain byte is none of csv's marks, and does not begin a byte order mark
record NoMark (c : ℕ) : Type 0 where
  comma : (c == 44) ≡ false
  quote : (c == 34) ≡ false
  carriage_return : (c == 13) ≡ false
  line_feed : (c == 10) ≡ false
  bom : (c == 0xEF) ≡ false

no_mark : (c : ℕ) → IsPlain c → NoMark c
no_mark c (inl minus) = rw minus (record {
  comma = refl;
  quote = refl;
  carriage_return = refl;
  line_feed = refl;
  bom = refl;
})
no_mark c (inr digit) =
    let low = digit.0 in
    let high = digit.1 in
    record {
      comma = ne_eqb c 44 (λ same. omega arith);
      quote = ne_eqb c 34 (λ same. omega arith);
      carriage_return = ne_eqb c 13 (λ same. omega arith);
      line_feed = ne_eqb c 10 (λ same. omega arith);
      bom = ne_eqb c 0xEF (λ same. omega arith);
    }

-- plain bytes join the field at hand
plain_run : (fields : List (List ℕ)) (front field behind : List ℕ) → AllByRecursion IsPlain field
    → next_record default_config st.InField fields front (field ++ behind)
    ≡ next_record default_config st.InField fields (front ++ field) behind
unfolding next_record
plain_run fields front [] behind plain = rw (append-nil front) refl
plain_run fields front (c ∷ cs) behind plain =
    let n = no_mark c plain.0 in
    rw (n.comma, n.carriage_return, n.line_feed) (plain_run fields (front ++ c ∷ []) cs behind plain.1
    ∙ ap (λ (f : List ℕ). next_record default_config st.InField fields f behind) (append_assoc front (c ∷ []) cs))

-- the state before the field in a column
abbrev pub before_column : ℕ → State
before_column zero = st.StartRecord
before_column (suc j) = st.StartField

plain_field : (j : ℕ) (fields : List (List ℕ)) (field behind : List ℕ) → AllByRecursion IsPlain field →
    1 ≤ length field
    → next_record default_config (before_column j) fields [] (field ++ behind)
    ≡ next_record default_config st.InField fields field behind
unfolding next_record
plain_field j fields [] behind plain some = absurd (omega arith)
plain_field zero fields (c ∷ cs) behind plain some =
    let n = no_mark c plain.0 in
    rw (n.comma, n.quote, n.carriage_return, n.line_feed) (plain_run fields (c ∷ []) cs behind plain.1)
plain_field (suc j) fields (c ∷ cs) behind plain some =
    let n = no_mark c plain.0 in
    rw (n.comma, n.quote, n.carriage_return, n.line_feed) (plain_run fields (c ∷ []) cs behind plain.1)

ends_field : (fields : List (List ℕ)) (field rest : List ℕ)
    → next_record default_config st.InField fields field (comma ∷ rest)
    ≡ next_record default_config st.StartField (fields ++ field ∷ []) [] rest
unfolding next_record
ends_field fields field rest = refl

ends_record : (fields : List (List ℕ)) (field left : List ℕ)
    → next_record default_config st.InField fields field (line_feed ∷ left)
    ≡ Some (fields ++ field ∷ [], st.StartRecord, left)
unfolding next_record
ends_record fields field left = refl

stays : (c : ℕ) (rest : List ℕ) → (c == 0xEF) ≡ false → strip_bom (c ∷ rest) ≡ c ∷ rest
unfolding strip_bom
stays c [] other = refl
stays c (a ∷ []) other = refl
stays c (a ∷ b ∷ rest) other = rw other refl

-- a text that begins with a plain field has no byte order mark
unmarked : (field behind : List ℕ) → AllByRecursion IsPlain field → 1 ≤ length field
    → strip_bom (field ++ behind) ≡ field ++ behind
unmarked [] behind plain some = absurd (omega arith)
unmarked (c ∷ cs) behind plain some = stays c (cs ++ behind) (no_mark c plain.0).bom

-- ---- the fields of a line

-- the fields before a column were read, and are words
pub record ColumnsRead (widths text : List ℕ) (input : List ℤ) (j : ℕ) (rest : List ℕ) : Type 0 where
  pub fields : List (List ℕ)
  pub count : length fields ≡ j
  pub are_fields : (k : ℕ) → k < j → IsField (get_or fields k []) (get_or input k (pos 0))
  pub fit : (k : ℕ) → k < j → FitsBits (get_or widths k 0) (get_or input k (pos 0))
  pub reads : next_record default_config st.StartRecord [] [] text
      ≡ next_record default_config (before_column j) fields [] rest
  pub begins : j ≡ 0 → rest ≡ text
  pub unmarked : 0 < j → strip_bom text ≡ text
  pub within : length rest ≤ length text

-- one value more
at_end : {A : Type 0} (xs : List A) (x d : A) → get_or (xs ++ x ∷ []) (length xs) d ≡ x
at_end [] x d = refl
at_end (y ∷ ys) x d = at_end ys x d

before_end : {A : Type 0} (xs : List A) (x d : A) (k : ℕ) → k < length xs → get_or (xs ++ x ∷ []) k d ≡ get_or xs k d
before_end [] x d k below = absurd (omega arith)
before_end (y ∷ ys) x d zero below = refl
before_end (y ∷ ys) x d (suc k) below = before_end ys x d k (omega arith)

at_set : (xs : List ℤ) (i : ℕ) (z : ℤ) → i < length xs → get_or (set xs i z) i (pos 0) ≡ z
at_set [] i z below = absurd (omega arith)
at_set (x ∷ xs) zero z below = refl
at_set (x ∷ xs) (suc i) z below = at_set xs i z (omega arith)

before_set : (xs : List ℤ) (i k : ℕ) (z : ℤ) → k < i → get_or (set xs i z) k (pos 0) ≡ get_or xs k (pos 0)
before_set [] i k z below = refl
before_set (x ∷ xs) zero k z below = absurd (omega arith)
before_set (x ∷ xs) (suc i) zero z below = refl
before_set (x ∷ xs) (suc i) (suc k) z below = before_set xs i k z (omega arith)

-- a place before the last, or the last
last_or_before : (k j : ℕ) → k < j + 1 → (k ≡ j) ⊎ (k < j)
last_or_before k j below = elim (eq-zero-or-pos (j - k)) [
  | inl none ↦ inl (omega arith)
  | inr some ↦ inr (omega arith)
]

-- what holds with the word in one column more
record Further (widths : List ℕ) (fields : List (List ℕ)) (input : List ℤ) (j : ℕ) : Type 0 where
  are_fields : (k : ℕ) → k < j → IsField (get_or fields k []) (get_or input k (pos 0))
  fit : (k : ℕ) → k < j → FitsBits (get_or widths k 0) (get_or input k (pos 0))

further : (widths text : List ℕ) (input : List ℤ) (j : ℕ) (rest : List ℕ) (word : ℤ) (behind : List ℕ)
    → (r : ColumnsRead widths text input j rest) → (w : BeginsWithWord rest (get_or widths j 0) word behind)
    → j < length input
    → Further widths (r.fields ++ w.field ∷ []) (set input j word) (j + 1)
further widths text input j rest word behind r w place = record {
  are_fields = λ k below. elim (last_or_before k j below) [
    | inl last ↦ rw (
      last,
      at_set input j word place,
      ap (λ n. get_or (r.fields ++ w.field ∷ []) n []) (sym r.count) ∙ at_end r.fields w.field [],
    ) w.value
    | inr before ↦ rw (
      before_set input j k word before,
      before_end r.fields w.field [] k (let count = r.count in omega arith),
    ) (r.are_fields k before)
  ];
  fit = λ k below. elim (last_or_before k j below) [
    | inl last ↦ rw (last, at_set input j word place) w.fits
    | inr before ↦ rw (before_set input j k word before) (r.fit k before)
  ];
}

-- csv at the end of the field in a column
field_read : (widths text : List ℕ) (input : List ℤ) (j : ℕ) (rest : List ℕ) (width : ℕ) (word : ℤ) (behind : List ℕ)
    → (r : ColumnsRead widths text input j rest) → (w : BeginsWithWord rest width word behind)
    → next_record default_config st.StartRecord [] [] text
    ≡ next_record default_config st.InField r.fields w.field behind
field_read widths text input j rest width word behind r w = r.reads
    ∙ ap (next_record default_config (before_column j) r.fields []) w.parts
    ∙ plain_field j r.fields w.field behind w.plain w.some

no_bom : (widths text : List ℕ) (input : List ℤ) (j : ℕ) (rest : List ℕ) (width : ℕ) (word : ℤ) (behind : List ℕ)
    → ColumnsRead widths text input j rest → BeginsWithWord rest width word behind → strip_bom text ≡ text
no_bom widths text input zero rest width word behind r w =
    let same : text ≡ w.field ++ behind = sym (r.begins refl) ∙ w.parts in
    rw same (unmarked w.field behind w.plain w.some)
no_bom widths text input (suc j) rest width word behind r w = r.unmarked (omega arith)

-- what follows a field is shorter
behind_shorter : (rest : List ℕ) (width : ℕ) (word : ℤ) (behind : List ℕ) → BeginsWithWord rest width word behind
    → length behind < length rest
behind_shorter rest width word behind w =
    let some = w.some in
    let whole : length rest ≡ length w.field + length behind = ap length w.parts ∙ length-append w.field behind in
    omega arith

-- the field in one column more, and a comma
pub one_more : (widths text : List ℕ) (input : List ℤ) (j : ℕ) (rest : List ℕ) (word : ℤ) (behind after : List ℕ)
    → ColumnsRead widths text input j rest → BeginsWithWord rest (get_or widths j 0) word behind
    → behind ≡ comma ∷ after → j < length input → ColumnsRead widths text (set input j word) (j + 1) after
one_more widths text input j rest word behind after r w ends place =
    let more = further widths text input j rest word behind r w place in
    let count = r.count in
    let within = r.within in
    let shorter = behind_shorter rest (get_or widths j 0) word behind w in
    let tail : length behind ≡ suc (length after) = ap length ends in
    let next : suc j ≡ j + 1 = omega arith in
    let reads : next_record default_config st.StartRecord [] [] text
    ≡ next_record default_config (before_column (suc j)) (r.fields ++ w.field ∷ []) [] after
    = field_read widths text input j rest (get_or widths j 0) word behind r w
    ∙ ap (next_record default_config st.InField r.fields w.field) ends ∙ ends_field r.fields w.field after in
    record {
      fields = r.fields ++ w.field ∷ [];
      count = omega (arith, length-append r.fields (w.field ∷ []));
      are_fields = more.are_fields;
      fit = more.fit;
      reads = subst (λ n. next_record default_config st.StartRecord [] [] text
          ≡ next_record default_config (before_column n) (r.fields ++ w.field ∷ []) [] after) next reads;
      begins = λ none. absurd (omega arith);
      unmarked = λ some. no_bom widths text input j rest (get_or widths j 0) word behind r w;
      within = omega arith;
    }

-- the field in the last column, and a line feed
pub last_read : (widths text : List ℕ) (input : List ℤ) (j : ℕ) (rest : List ℕ) (word : ℤ) (behind left : List ℕ)
    → ColumnsRead widths text input j rest → BeginsWithWord rest (get_or widths j 0) word behind
    → behind ≡ line_feed ∷ left → length widths ≡ j + 1 → length input ≡ length widths
    → FirstRecord widths text (set input j word) behind
last_read widths text input j rest word behind left r w ends whole places =
    let place : j < length input = omega arith in
    let more = further widths text input j rest word behind r w place in
    let count = r.count in
    let within = r.within in
    let shorter = behind_shorter rest (get_or widths j 0) word behind w in
    let reads : next_record default_config st.StartRecord [] [] text
    ≡ Some (r.fields ++ w.field ∷ [], st.StartRecord, left)
    = field_read widths text input j rest (get_or widths j 0) word behind r w
    ∙ ap (next_record default_config st.InField r.fields w.field) ends ∙ ends_record r.fields w.field left in
    record {
      fields = r.fields ++ w.field ∷ [];
      left = left;
      are_words = record {
        fields_count = omega (arith, length-append r.fields (w.field ∷ []));
        words_count = length-set input j word ∙ places;
        are_fields = λ k below. more.are_fields k (omega arith);
        fit = λ k below. more.fit k (omega arith);
      };
      ends = ends;
      unmarked = no_bom widths text input j rest (get_or widths j 0) word behind r w;
      shorter = omega arith;
      reads = reads;
    }

-- ---- the record of a line

-- a line feed between records is none
line_feed_first : (n : ℕ) (cs : List ℕ) → records_from default_config (suc n) st.StartRecord (line_feed ∷ cs)
    ≡ records_from default_config (suc n) st.StartRecord cs
unfolding next_record records_from
line_feed_first n cs = refl

behind_line_feed : (cs : List ℕ) → records default_config (line_feed ∷ cs) ≡ records default_config cs
behind_line_feed cs =
    let more : length (line_feed ∷ cs) + 1 ≡ suc (length cs + 1) = omega arith in
    rw more (line_feed_first (length cs + 1) cs
    ∙ same_records (suc (length cs + 1)) (length cs + 1) default_config st.StartRecord cs refl (omega arith)
    (omega arith))

unmarked_line_feed : (cs : List ℕ) → strip_bom (line_feed ∷ cs) ≡ line_feed ∷ cs
unfolding strip_bom
unmarked_line_feed [] = refl
unmarked_line_feed (a ∷ []) = refl
unmarked_line_feed (a ∷ b ∷ rest) = refl

-- a line feed at the front leaves the records as they are
records_of_line : (text : List ℕ) → strip_bom (line_at text) ≡ line_at text
    → records default_config (strip_bom text) ≡ records default_config (line_at text)
records_of_line [] same = ap (records default_config) same
records_of_line (c ∷ cs) same = elim (cases_Bool (c == line_feed)) [
  | inl feed ↦ rw (eqb-true c line_feed feed) (ap (records default_config) (unmarked_line_feed cs) ∙
      behind_line_feed cs)
  | inr other ↦
      let here : line_at (c ∷ cs) ≡ c ∷ cs = rw other refl in
      rw here (ap (records default_config) (rw here at same))
]

-- the first record of a text that begins with a plain line
pub first_record : (widths text : List ℕ) (words : List ℤ) (behind : List ℕ)
    → (f : FirstRecord widths (line_at text) words behind)
    → records default_config (strip_bom text) ≡ f.fields ∷ records default_config (strip_bom behind)
first_record widths text words behind f =
    let line = line_at text in
    let more = records-more st.StartRecord line (f.fields, st.StartRecord, f.left) refl f.reads in
    let after : records default_config (strip_bom behind) ≡ records default_config f.left =
    ap (λ t. records default_config (strip_bom t)) f.ends ∙ ap (records default_config) (unmarked_line_feed f.left)
    ∙ behind_line_feed f.left in
    records_of_line text f.unmarked ∙ more.0 ∙ ap (λ rs. f.fields ∷ rs) (sym after)

-- the words of a plain line are a moment
pub moment_of : (p : Code) (text : List ℕ) (words : List ℤ) (behind : List ℕ) → FirstRecord p.inputs text words behind
    → IsMoment p words
moment_of p text words behind f = record { count = f.are_words.words_count; fits = f.are_words.fit }

line_within : (text : List ℕ) → length (line_at text) ≤ length text
line_within [] = omega arith
line_within (c ∷ cs) = elim (cases_Bool (c == line_feed)) [
  | inl feed ↦ rw feed (omega arith)
  | inr other ↦ rw other (omega arith)
]

-- what follows a plain line is shorter
pub left_shorter : (widths text : List ℕ) (words : List ℤ) (behind : List ℕ)
    → FirstRecord widths (line_at text) words behind → length behind < length text
left_shorter widths text words behind f =
    let shorter = f.shorter in
    let within = line_within text in
    omega arith
