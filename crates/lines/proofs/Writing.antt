-- Bytes written one behind the other.
-- Assumes nothing.
use Rattle.std.proofs.Common.{◌≡◌, ℕ, ◌+◌, ◌-◌, ◌*◌, ◌<◌, ◌≤◌, Bool, List, [], ◌∷◌, ◌++◌, length, get_or, take, drop, sym, refl, ap, ◌∙◌, subst, append_assoc, append-nil, arith}
use borrow.Rule.Slice.PartMut.{put_mid}
use Rattle.std.proofs.lemmas.List.{same_lists, places, drop_at, drop-take, take_at, take_more, length-append, length-drop, length-take-le}
use Rattle.model.specs.Wire.{Bytes, bytes_of, flag_of, tag_bytes, spec_bytes}
use Rattle.model.specs.Lines.{framed}
use Rattle.octets.proofs.Numbers.{length_bytes_of}
use Rattle.jobs.proofs.Words.{row_length}
use Rattle.lines.specs.Puts.{Puts}

-- PARTS OF LISTS

drop_add : (j d : ℕ) (xs : Bytes) → drop (j + d) xs ≡ drop d (drop j xs)
drop_add j d xs = same_lists _ _ (grind (arith, places)) (λ k z h. grind (arith, places))

drop_further : (j k : ℕ) (xs ys : Bytes) → j ≤ k → drop j xs ≡ drop j ys → drop k xs ≡ drop k ys
drop_further j k xs ys h e =
    let a : k ≡ j + (k - j) = omega arith in
    ap (λ (n : ℕ). drop n xs) a ∙ drop_add j (k - j) xs ∙ ap (drop (k - j)) e ∙ sym (ap (λ (n : ℕ). drop n ys) a ∙ drop_add j (k - j) ys)

take_add : (x d : ℕ) (xs : Bytes) → take (x + d) xs ≡ take x xs ++ take d (drop x xs)
take_add x d xs = same_lists _ _ (grind (arith, places)) (λ k z h. grind (arith, places))

take_front : (n m : ℕ) (xs : Bytes) → n ≤ m → take n (take m xs) ≡ take n xs
take_front n m xs h = same_lists _ _ (grind (arith, places)) (λ k z g. grind (arith, places))

take_front_append : (n m : ℕ) (xs ys : Bytes) → n ≤ m → m ≤ length xs → take n (take m xs ++ ys) ≡ take n xs
take_front_append n m xs ys h l = same_lists _ _ (grind (arith, places)) (λ k z g. grind (arith, places))

-- WRITING

-- nothing is written
pub puts_none : (out : Bytes) (n : ℕ) → Puts [] out out n n
puts_none out n = record { bytes = sym (append-nil (take n out)); end = omega arith; rest = refl; long = refl }

-- one behind the other
pub puts_then : {xs ys a b c : Bytes} {i j k : ℕ} → Puts xs a b i j → Puts ys b c j k → Puts (xs ++ ys) a c i k
puts_then {xs} {ys} {a} {b} {c} {i} {j} {k} p q = record {
  bytes = q.bytes ∙ ap (λ (t : Bytes). t ++ ys) p.bytes ∙ append_assoc (take i a) xs ys;
  end = let e = length-append xs ys in omega (arith, p.end, q.end);
  rest = q.rest ∙ drop_further j k b a (omega (arith, q.end)) p.rest;
  long = q.long ∙ p.long;
}

pub puts_as : {xs ys a b : Bytes} {i j : ℕ} → xs ≡ ys → Puts xs a b i j → Puts ys a b i j
puts_as {xs} {ys} {a} {b} {i} {j} e p = subst (λ (t : Bytes). Puts t a b i j) e p

-- what stands in front is written afterwards, into the place that was left for it
pub puts_back : {xs ys a b c : Bytes} {i j k : ℕ} → j ≤ length a → Puts ys a b j k → Puts xs b c i j → Puts (xs ++ ys) a c i k
puts_back {xs} {ys} {a} {b} {c} {i} {j} {k} h p q = record {
  bytes = ap (λ (n : ℕ). take n c) p.end ∙ take_add j (length ys) c ∙ ap (λ (t : Bytes). t ++ take (length ys) (drop j c)) q.bytes ∙ ap (λ (t : Bytes). (take i b ++ xs) ++ t) behind ∙ append_assoc (take i b) xs ys ∙ ap (λ (t : Bytes). t ++ (xs ++ ys)) front;
  end = let e = length-append xs ys in omega (arith, p.end, q.end);
  rest = drop_further j k c b (omega (arith, p.end)) q.rest ∙ p.rest;
  long = q.long ∙ p.long;
}
  where
    behind : take (length ys) (drop j c) ≡ ys
    behind =
        ap (take (length ys)) q.rest ∙ sym (drop-take j (length ys) b) ∙ ap (drop j) (ap (λ (n : ℕ). take n b) (sym p.end) ∙ p.bytes) ∙ drop_at (take j a) ys j (length-take-le j a h)

    front : take i b ≡ take i a
    front = sym (take_front i k b (omega (arith, p.end, q.end))) ∙ ap (take i) p.bytes ∙ take_front_append i j a ys (omega (arith, q.end)) h

-- a part of so many bytes is written
pub puts_part : (w at : ℕ) (out ys : Bytes) → at + w ≤ length out → length ys ≡ w → Puts ys out (put_mid at (at + w - at) out ys) at (at + w)
puts_part w at out ys h e =
    let k : at + w - at ≡ w = omega arith in
    let f : length (take at out) ≡ at = length-take-le at out (omega arith) in
    rw k record {
      bytes = ap (take (at + w)) (sym (append_assoc (take at out) ys (drop w (drop at out)))) ∙ take_at (take at out ++ ys) (drop w (drop at out)) (at + w) (length-append (take at out) ys ∙ omega (arith, e, f));
      end = omega (arith, e);
      rest = ap (drop (at + w)) (sym (append_assoc (take at out) ys (drop w (drop at out)))) ∙ drop_at (take at out ++ ys) (drop w (drop at out)) (at + w) (length-append (take at out) ys ∙ omega (arith, e, f)) ∙ sym (drop_add at w out);
      long = simp (length-append, length-drop) (omega (arith, e, f));
    }

pub puts_number : (w n at : ℕ) (out ys : Bytes) (end m : ℕ) → at + w ≤ length out → end ≡ at + w → m ≡ n → ys ≡ bytes_of (length (take (end - at) (drop at out))) m → Puts (bytes_of w n) out (put_mid at (end - at) out ys) at end
puts_number w n at out ys end m h e k f =
    let l : length (take (end - at) (drop at out)) ≡ w = let d : end - at ≡ w = omega (arith, e) in rw d (row_length w at out h) in
    let g : ys ≡ bytes_of w n = f ∙ (λ i. bytes_of (l i) (k i)) in
    rw e (puts_as g (puts_part w at out ys h (ap length g ∙ length_bytes_of w n)))

-- TAGS

pub tag_bytes_push : (ts : List ℕ) (t : ℕ) → tag_bytes (ts ++ (t ∷ [])) ≡ tag_bytes ts ++ bytes_of 4 t
unfolding tag_bytes
tag_bytes_push [] t = append-nil (bytes_of 4 t)
tag_bytes_push (u ∷ ts) t = ap (λ (bs : Bytes). bytes_of 4 u ++ bs) (tag_bytes_push ts t) ∙ sym (append_assoc (bytes_of 4 u) (tag_bytes ts) (bytes_of 4 t))

pub tags_none : (tags out : Bytes) (at : ℕ) → Puts (tag_bytes (take 0 tags)) out out at at
unfolding tag_bytes
tags_none tags out at = puts_none out at

pub tags_more : (tags a b c : Bytes) (i at n m : ℕ) → i < length tags → Puts (tag_bytes (take i tags)) a b at n → Puts (bytes_of 4 (get_or tags i 0)) b c n m → Puts (tag_bytes (take (i + 1) tags)) a c at m
tags_more tags a b c i at n m h p q = puts_as (sym (ap tag_bytes (take_more tags i 0 h) ∙ tag_bytes_push (take i tags) (get_or tags i 0))) (puts_then p q)

pub length_tag_bytes : (ts : List ℕ) → length (tag_bytes ts) ≡ 4 * length ts
unfolding tag_bytes
length_tag_bytes [] = refl
length_tag_bytes (t ∷ ts) = let a = length-append (bytes_of 4 t) (tag_bytes ts) in let b = length_bytes_of 4 t in let c = length_tag_bytes ts in omega arith

-- A SPEC, part by part
pub puts_spec : {a b c d e f g : Bytes} {i j k l m n o : ℕ} (image cpu mem t : ℕ) (tags : List ℕ) (apart : Bool) (count flag : ℕ) → t ≤ length tags → count ≡ t → flag ≡ flag_of apart →
    Puts (bytes_of 4 image) a b i j → Puts (bytes_of 4 cpu) b c j k → Puts (bytes_of 4 mem) c d k l → Puts (t ∷ []) d e l m → Puts (tag_bytes (take count tags)) e f m n → Puts (flag ∷ []) f g n o →
    Puts (spec_bytes (record { image = image; cpu = cpu; mem = mem; tags = take t tags; apart = apart })) a g i o
puts_spec image cpu mem t tags apart count flag h w x p q r s u v =
    let y : t ≡ length (take t tags) = sym (length-take-le t tags h) in
    puts_then p (puts_then q (puts_then r (puts_then (puts_as (ap (λ (x : ℕ). x ∷ []) y) s) (puts_then (puts_as (ap (λ (k : ℕ). tag_bytes (take k tags)) w) u) (puts_as (ap (λ (x : ℕ). x ∷ []) x) v)))))

-- A FRAME, written around what stands behind its place
pub puts_framed : {body a b c d : Bytes} {m r s : ℕ} (tag n : ℕ) → 8 ≤ length a → Puts body a b 8 m → Puts (bytes_of 4 tag) b c 4 r → r ≡ 4 + 4 → Puts (bytes_of 4 n) c d 0 s → s ≡ 0 + 4 → n ≡ m - 4 → Puts (framed tag body) a d 0 m
puts_framed {body} {a} {b} {c} {d} {m} {r} {s} tag n h p q e f g k =
    let u : n ≡ 4 + length body = omega (arith, p.end, k) in
    let t = puts_back h p (subst (λ (z : ℕ). Puts (bytes_of 4 tag) b c 4 z) e q) in
    puts_back (omega (arith, h)) t (puts_as (ap (bytes_of 4) u) (subst (λ (z : ℕ). Puts (bytes_of 4 n) c d 0 z) g f))
