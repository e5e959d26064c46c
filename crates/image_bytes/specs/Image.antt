-- A table's words as bytes, little-endian (document 01, "page image"), and the laws that the loops cite.
use Rattle.std.specs.Prelude.{◌≡◌, refl, List, [], ◌∷◌, ◌++◌, ℕ, zero, suc, ◌+◌, ◌*◌, ◌/◌, ◌%◌, ◌<◌, length, get_or, take, drop}
use Rattle.std.proofs.Common.{sym, ap, ap₂, ◌∙◌, append_assoc, append-nil, add-one}
use Rattle.std.proofs.Common.{arith, length-append, drop_of_length-le, take-suc, take_at, length-take-le, drop-drop}
use Rattle.std.proofs.Math.Seq.{take-length, drop-append-add}
use Rattle.laws.specs.Part.{put_part}

-- the n bytes of a word, lowest first
unfoldable pub bytes_of : ℕ → ℕ → List ℕ
bytes_of zero w = []
bytes_of (suc n) w = w % 256 ∷ bytes_of n (w / 256)

unfoldable pub image_of : List ℕ → List ℕ
image_of [] = []
image_of (w ∷ ws) = bytes_of 8 w ++ image_of ws

-- ---- laws

-- a word after i divisions by 256
unfoldable pub divided : ℕ → ℕ → ℕ
divided zero w = w
divided (suc i) w = divided i w / 256

pub divided-more : (i w : ℕ) → divided (i + 1) w ≡ divided i w / 256
unfolding divided
divided-more i w = rw add-one

divided_early : (i w : ℕ) → divided i (w / 256) ≡ divided i w / 256
unfolding divided
divided_early zero w = refl
divided_early (suc i) w = ap (λ (x : ℕ). x / 256) (divided_early i w)

pub length_bytes : (n w : ℕ) → length (bytes_of n w) ≡ n
unfolding bytes_of
length_bytes zero w = refl
length_bytes (suc n) w = ap suc (length_bytes n (w / 256))

pub bytes_at : (n w i : ℕ) → i < n → get_or (bytes_of n w) i 0 ≡ divided i w % 256
unfolding bytes_of divided
bytes_at zero w i h = absurd (omega arith)
bytes_at (suc n) w zero h = refl
bytes_at (suc n) w (suc i) h = bytes_at n (w / 256) i (omega arith) ∙ ap (λ (x : ℕ). x % 256) (divided_early i w)

pub length_image : (ws : List ℕ) → length (image_of ws) ≡ 8 * length ws
unfolding image_of
length_image [] = refl
length_image (w ∷ ws) =
    length-append (bytes_of 8 w) (image_of ws)
    ∙ (let e = length_bytes 8 w in let r = length_image ws in
    let s : length (bytes_of 8 w) + length (image_of ws) ≡ 8 * suc (length ws) = omega arith in s)

image_append : (us ws : List ℕ) → image_of (us ++ ws) ≡ image_of us ++ image_of ws
unfolding image_of
image_append [] ws = refl
image_append (u ∷ us) ws =
    ap (λ (l : List ℕ). bytes_of 8 u ++ l) (image_append us ws) ∙ sym (append_assoc (bytes_of 8 u) (image_of us) (image_of ws))

image_one : (w : ℕ) → image_of (w ∷ []) ≡ bytes_of 8 w
unfolding image_of
image_one w = append-nil (bytes_of 8 w)

-- after i words: their image, and the rest of the page
unfoldable pub imaged_to : ℕ → List ℕ → List ℕ → List ℕ
imaged_to i ws page = image_of (take i ws) ++ drop (8 * i) page

pub imaged_none : (ws page : List ℕ) → page ≡ imaged_to 0 ws page
unfolding imaged_to image_of
imaged_none ws page = refl

pub imaged_all : (ws page : List ℕ) → length page ≡ 8 * length ws → imaged_to (length ws) ws page ≡ image_of ws
unfolding imaged_to
imaged_all ws page e = rw (take-length, drop_of_length-le page {i = 8 * length ws} (omega arith), append-nil)

-- one word more
pub imaged-more : (i : ℕ) (ws page : List ℕ) → i < length ws → length page ≡ 8 * length ws
    → put_part (8 * i) (bytes_of 8 (get_or ws i 0)) (imaged_to i ws page) ≡ imaged_to (i + 1) ws page
unfolding imaged_to put_part
imaged-more i ws page h e =
    let w = get_or ws i 0 in
    let front = image_of (take i ws) in
    let long : length front ≡ 8 * i = length_image (take i ws) ∙ ap (λ (x : ℕ). 8 * x) (length-take-le i ws (omega arith)) in
    let eight = length_bytes 8 w in
    ap₂ (λ (a b : List ℕ). a ++ (bytes_of 8 w ++ b)) (take_at front (drop (8 * i) page) (8 * i) long)
    (ap (λ (x : ℕ). drop x (front ++ drop (8 * i) page)) (let q : 8 * i + length (bytes_of 8 w) ≡ length front + 8 = omega arith in q)
    ∙ drop-append-add front (drop (8 * i) page) 8 ∙ drop-drop 8 (8 * i) page)
    ∙ sym (append_assoc front (bytes_of 8 w) (drop (8 * i + 8) page))
    ∙ ap₂ (λ (a b : List ℕ). a ++ b)
    (sym (ap image_of (rw add-one (take-suc ws i 0 h)) ∙ image_append (take i ws) (w ∷ []) ∙ ap (λ (l : List ℕ). front ++ l) (image_one w)))
    (ap (λ (x : ℕ). drop x page) (let q : 8 * i + 8 ≡ 8 * (i + 1) = omega arith in q))
