-- Code that is put behind other steps.
use Rattle.std.proofs.Common.{◌≡◌, ℕ, ◌+◌, ◌-◌, ◌<◌, ◌≤◌, List, [], ◌∷◌, ◌++◌, map, length, subst, Result, Ok, Err, OnOk, sym, ◌∙◌, ap, append_assoc, append-nil, drop, get_or, arith}
use Rattle.std.proofs.lemmas.List.{length-map, length-append}
use Rattle.ecam_spec.specs.Book.{Tree, all, any, at_least, confirmed, held, risen, latched}
use Rattle.ecam_spec.specs.TermSize.{slots, nodes}
use Rattle.term_tree.specs.declared.cond.Cond.{Cond}
use Rattle.term_tree.specs.View.{tree_of, trees_of}
use Rattle.term_eval.specs.declared.code.Step.{Step}
use Rattle.term_eval.specs.declared.code.Node.TheVariants.{All, Any, AtLeast, Conf, Hold, Rise, Latch}
use Rattle.term_tree.proofs.Members.{trees_of-next, trees_of-end}
use Rattle.term_eval.specs.Code.{code, codes, many, step, IsShort, AreShort}
use Rattle.term_eval.proofs.Codes.{many-trees, length-code}

pub on-ok : {A B : Type 0} (r : Result A B) (P Q : Type 0) → (P → Q) → OnOk r P → OnOk r Q
on-ok (Ok x) P Q goes p = goes p
on-ok (Err e) P Q goes p = p

behind-both : (old mid new xs ys : List Step) → mid ≡ old ++ xs → new ≡ mid ++ ys → new ≡ old ++ (xs ++ ys)
behind-both old mid new xs ys first second = second ∙ ap (λ l. l ++ ys) first ∙ append_assoc old xs ys

-- the code of what a node stands over is put behind the node's own step
pub coded : {A B : Type 0} (r : Result A B) (old mid new : List Step) (own : Step) (ys whole : List Step) → mid ≡ old ++ own ∷ [] → whole ≡ own ∷ ys → OnOk r (new ≡ mid ++ ys) →
    OnOk r (new ≡ old ++ whole)
coded r old mid new own ys whole first is last =
    on-ok r (new ≡ mid ++ ys) (new ≡ old ++ whole) (λ e. behind-both old mid new (own ∷ []) ys first e ∙ ap (λ l. old ++ l) (sym is)) last

-- and the codes of the two things that a latch stands over
pub coded-both : {A B : Type 0} (r : Result A B) (old mid late new : List Step) (own : Step) (xs ys whole : List Step) → mid ≡ old ++ own ∷ [] → late ≡ mid ++ xs → whole ≡ own ∷ (xs ++ ys) →
    OnOk r (new ≡ late ++ ys) → OnOk r (new ≡ old ++ whole)
coded-both r old mid late new own xs ys whole first second is last =
    on-ok r (new ≡ late ++ ys) (new ≡ old ++ whole)
    (λ e. behind-both old late new (own ∷ xs) ys (behind-both old mid late (own ∷ []) xs first second) e ∙ ap (λ l. old ++ l) (sym is)) last

-- where the second of them stands behind the latch
pub behind-first : (old mid late : List Step) (own : Step) (t : Tree) (at up : ℕ) → mid ≡ old ++ own ∷ [] → late ≡ mid ++ code at up t → length late - length old ≡ 1 + nodes t
behind-first old mid late own t at up first second =
    let short : length mid ≡ length old + 1 = ap length first ∙ length-append old (own ∷ []) in
    let long : length late ≡ length mid + nodes t = ap length second ∙ length-append mid (code at up t) ∙ ap (λ n. length mid + n) (length-code t at up) in
    omega arith

counted : (members : List Cond) (len : ℕ) → len ≡ length members → many (trees_of members) ≡ len
counted members len long = many-trees (map tree_of members) ∙ length-map members tree_of ∙ sym long

pub all-code : (at up : ℕ) (t : Tree) (members shown : List Cond) (len : ℕ) → t ≡ all (trees_of members) → shown ≡ members → len ≡ length members →
    code at up t ≡ step (All len) up ∷ codes at 1 (trees_of shown)
unfolding code
all-code at up t members shown len tree same long =
    ap (code at up) tree ∙ ap (λ n. step (All n) up ∷ codes at 1 (trees_of members)) (counted members len long) ∙ ap (λ ms. step (All len) up ∷ codes at 1 (trees_of ms)) (sym same)

pub any-code : (at up : ℕ) (t : Tree) (members shown : List Cond) → t ≡ any (trees_of members) → shown ≡ members → code at up t ≡ step Any up ∷ codes at 1 (trees_of shown)
unfolding code
any-code at up t members shown tree same = ap (code at up) tree ∙ ap (λ ms. step Any up ∷ codes at 1 (trees_of ms)) (sym same)

pub at_least-code : (at up l : ℕ) (t : Tree) (members shown : List Cond) → t ≡ at_least l (trees_of members) → shown ≡ members →
    code at up t ≡ step (AtLeast l) up ∷ codes at 1 (trees_of shown)
unfolding code
at_least-code at up l t members shown tree same = ap (code at up) tree ∙ ap (λ ms. step (AtLeast l) up ∷ codes at 1 (trees_of ms)) (sym same)

pub confirmed-code : (at up : ℕ) (t : Tree) (of shown : Cond) (n m own next : ℕ) → t ≡ confirmed (tree_of of) n → shown ≡ of → m ≡ n → own ≡ at → next ≡ at + 1 →
    code at up t ≡ step (Conf m own) up ∷ code next 1 (tree_of shown)
unfolding code
confirmed-code at up t of shown n m own next tree same short place behind =
    ap (code at up) tree ∙ ap (λ c. step (Conf n at) up ∷ code (at + 1) 1 (tree_of c)) (sym same) ∙ ap (λ i. step (Conf n at) up ∷ code i 1 (tree_of shown)) (sym behind)
    ∙ ap (λ i. step (Conf n i) up ∷ code next 1 (tree_of shown)) (sym place) ∙ ap (λ i. step (Conf i own) up ∷ code next 1 (tree_of shown)) (sym short)

pub held-code : (at up : ℕ) (t : Tree) (of shown : Cond) (n m own next : ℕ) → t ≡ held (tree_of of) n → shown ≡ of → m ≡ n → own ≡ at → next ≡ at + 1 →
    code at up t ≡ step (Hold m own) up ∷ code next 1 (tree_of shown)
unfolding code
held-code at up t of shown n m own next tree same short place behind =
    ap (code at up) tree ∙ ap (λ c. step (Hold n at) up ∷ code (at + 1) 1 (tree_of c)) (sym same) ∙ ap (λ i. step (Hold n at) up ∷ code i 1 (tree_of shown)) (sym behind)
    ∙ ap (λ i. step (Hold n i) up ∷ code next 1 (tree_of shown)) (sym place) ∙ ap (λ i. step (Hold i own) up ∷ code next 1 (tree_of shown)) (sym short)

pub risen-code : (at up : ℕ) (t : Tree) (of shown : Cond) (own next : ℕ) → t ≡ risen (tree_of of) → shown ≡ of → own ≡ at → next ≡ at + 1 →
    code at up t ≡ step (Rise own) up ∷ code next 1 (tree_of shown)
unfolding code
risen-code at up t of shown own next tree same place behind =
    ap (code at up) tree ∙ ap (λ c. step (Rise at) up ∷ code (at + 1) 1 (tree_of c)) (sym same) ∙ ap (λ i. step (Rise at) up ∷ code i 1 (tree_of shown)) (sym behind)
    ∙ ap (λ i. step (Rise i) up ∷ code next 1 (tree_of shown)) (sym place)

pub latched-code : (at up : ℕ) (t : Tree) (set reset set' reset' : Cond) (own next later behind : ℕ) → t ≡ latched (tree_of set) (tree_of reset) → set' ≡ set → reset' ≡ reset → own ≡ at →
    next ≡ at + 1 → later ≡ next + slots (tree_of set') → behind ≡ 1 + nodes (tree_of set') → code at up t ≡ step (Latch own) up ∷ (code next 1 (tree_of set') ++ code later behind (tree_of reset'))
unfolding code
latched-code at up t set reset set' reset' own next later behind tree first second place follows after far =
    ap (code at up) tree ∙ ap (λ c. step (Latch at) up ∷ (code (at + 1) 1 (tree_of c) ++ code (at + 1 + slots (tree_of c)) (1 + nodes (tree_of c)) (tree_of reset))) (sym first)
    ∙ ap (λ c. step (Latch at) up ∷ (code (at + 1) 1 (tree_of set') ++ code (at + 1 + slots (tree_of set')) (1 + nodes (tree_of set')) (tree_of c))) (sym second)
    ∙ ap (λ i. step (Latch at) up ∷ (code i 1 (tree_of set') ++ code (i + slots (tree_of set')) (1 + nodes (tree_of set')) (tree_of reset'))) (sym follows)
    ∙ ap (λ i. step (Latch at) up ∷ (code next 1 (tree_of set') ++ code i (1 + nodes (tree_of set')) (tree_of reset'))) (sym after)
    ∙ ap (λ i. step (Latch at) up ∷ (code next 1 (tree_of set') ++ code later i (tree_of reset'))) (sym far)
    ∙ ap (λ i. step (Latch i) up ∷ (code next 1 (tree_of set') ++ code later behind (tree_of reset'))) (sym place)

-- the code of a member, and of those behind it
pub codes-next : (cs : List Cond) (i : ℕ) (c : Cond) → i < length cs → c ≡ get_or cs i c → (at next up far further : ℕ) (old mid done : List Step) → next ≡ at + slots (tree_of c) →
    up ≡ far → further ≡ up + nodes (tree_of c) → mid ≡ old ++ code at up (tree_of c) → old ++ codes at far (trees_of (drop i cs)) ≡ done → mid ++ codes next further (trees_of (drop (i + 1) cs)) ≡ done
unfolding code
codes-next cs i c within is at next up far further old mid done behind same after grown whole =
    ap (λ l. l ++ codes next further (trees_of (drop (i + 1) cs))) grown ∙ append_assoc old (code at up (tree_of c)) (codes next further (trees_of (drop (i + 1) cs)))
    ∙ ap (λ n. old ++ (code at up (tree_of c) ++ codes n further (trees_of (drop (i + 1) cs)))) behind
    ∙ ap (λ n. old ++ (code at up (tree_of c) ++ codes (at + slots (tree_of c)) n (trees_of (drop (i + 1) cs)))) after
    ∙ ap (λ ts. old ++ codes at up ts) (sym (trees_of-next cs i c within is)) ∙ ap (λ n. old ++ codes at n (trees_of (drop i cs))) same ∙ whole

pub codes-end : (cs : List Cond) (i : ℕ) → length cs ≤ i → (at up : ℕ) (old : List Step) → old ≡ old ++ codes at up (trees_of (drop i cs))
unfolding code
codes-end cs i after at up old = sym (append-nil old) ∙ ap (λ ts. old ++ codes at up ts) (sym (trees_of-end cs i after))

-- how much longer the steps are with the code of a member
pub longer-by : (old mid : List Step) (t : Tree) (at up : ℕ) → mid ≡ old ++ code at up t → length mid ≡ length old + nodes t
longer-by old mid t at up grown = ap length grown ∙ length-append old (code at up t) ∙ ap (λ n. length old + n) (length-code t at up)

pub short-next : (cs : List Cond) (i : ℕ) (c : Cond) → i < length cs → c ≡ get_or cs i c → IsShort (tree_of c) → AreShort (trees_of (drop (i + 1) cs)) → AreShort (trees_of (drop i cs))
unfolding IsShort
short-next cs i c within is own rest = subst AreShort (sym (trees_of-next cs i c within is)) (own, rest)

pub short-end : (cs : List Cond) (i : ℕ) → length cs ≤ i → AreShort (trees_of (drop i cs))
unfolding IsShort
short-end cs i after = subst AreShort (sym (trees_of-end cs i after)) tt
