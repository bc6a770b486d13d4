-- What is known of versions, with one more of them.
use Rattle.std.proofs.Common.{◌≡◌, ◌<◌, ◌||◌, Bool, true, false, List, [], ◌∷◌, ◌++◌, ℕ, length, get_or, refl, sym, ◌∙◌, ap, subst, option_and_then}
use Rattle.std.specs.declared.cmp.Ordering.{Ordering}
use Rattle.std.specs.declared.cmp.Ordering.TheVariants.{Less, Equal, Greater}
use Rattle.std.specs.BTreeMap.{is_at}
use Rattle.std.specs.BTreeSet.{insert_key}
use Rattle.std.specs.List.{AllByRecursion, list_any}
use Rattle.std.specs.Ordering.{is_eq, match_ordering}
use Rattle.std.proofs.lemmas.Map.Text.{is_eq-slice_cmp}
use Rattle.std.proofs.lemmas.Slice.Eq.{bytes_eq-Decides}
use Rattle.std.proofs.lemmas.List.{get_or_default}
use Rattle.std.proofs.lemmas.List.Elements.{All-head, All-tail, Contains-append_left, Contains-push}
use Rattle.gb_text.specs.declared.id.Name.{Name}
use Rattle.object_store.specs.Held.{Objects}
use Rattle.object_store.specs.Typed.{blob_at}
use Rattle.commit_walk.specs.declared.chain.Link.{Link}
use Rattle.identity.specs.Answers.{IsJudged, Leads, NoVersion, OneRefused, VersionIn}
use Rattle.identity.specs.Commits.{NamesVersion, text_in}
use Rattle.identity.specs.Faults.{Refused}
use Rattle.identity.specs.Knowing.{EachHas, IsVersion, TreeHas, by_bytes}
use Rattle.identity.specs.declared.commit.Judged.{Judged}
use Rattle.identity.specs.declared.version.Version.{Version}
use Rattle.identity.specs.declared.fault.IdentityFault.{IdentityFault}
use Rattle.identity.proofs.CommitLemmas.{Refused-map}

-- ---- keys in order

-- what holds of the keys and of one more holds of both
pub all_inserted : {A : Type 0} (cmp : A → A → Ordering) (P : A → Type 0) (ks : List A) (k : A) → AllByRecursion P ks → P k → AllByRecursion P (insert_key cmp ks k)
all_inserted cmp P [] k all p = (p, tt)
all_inserted cmp P (x ∷ xs) k all p = by (cmp k x) (all_inserted cmp P xs k all.1 p)
  where
    by : (r : Ordering) → AllByRecursion P (insert_key cmp xs k) → AllByRecursion P (match_ordering r (k ∷ x ∷ xs) (x ∷ xs) (x ∷ insert_key cmp xs k))
    by Less rest = (p, all)
    by Equal rest = all
    by Greater rest = (all.0, rest)

-- and of a key that is found among them
all_found : {A : Type 0} (cmp : A → A → Ordering) (P : A → Type 0) (ks : List A) (k : A) → ((x : A) → is_eq (cmp k x) ≡ true → k ≡ x)
    → list_any (is_at (cmp k)) ks ≡ true → AllByRecursion P ks → P k
all_found cmp P [] k same found all = absurd (cc found)
all_found cmp P (x ∷ xs) k same found all = by (is_eq (cmp k x)) refl found (λ later. all_found cmp P xs k same later all.1)
  where
    by : (b : Bool) → is_eq (cmp k x) ≡ b → (b || list_any (is_at (cmp k)) xs) ≡ true → (list_any (is_at (cmp k)) xs ≡ true → P k) → P k
    by true at found rest = subst P (sym (same x at)) all.0
    by false at found rest = rest found

pub same_name : (one two : Name) → is_eq (by_bytes one two) ≡ true → one ≡ two
same_name one two tied =
    let bytes : one.bytes ≡ two.bytes = (bytes_eq-Decides one.bytes two.bytes).0 (sym (is_eq-slice_cmp one.bytes two.bytes) ∙ tied) in
    ap (λ (bytes : List ℕ). record { bytes = bytes }) bytes

-- what holds of names holds of one that is found among them
pub name_found : (P : Name → Type 0) (names : List Name) (name : Name) → list_any (is_at (by_bytes name)) names ≡ true → AllByRecursion P names → P name
name_found P names name found all = all_found by_bytes P names name (same_name name) found all

-- ---- trees and versions

-- a tree that names a version has it
pub TreeHas-named : (objects : Objects) (tree object : Name) → NamesVersion objects tree object → IsVersion objects object → TreeHas objects tree
TreeHas-named objects tree object named is = record {
  text = is.text;
  version = is.version;
  holds = ap (option_and_then (blob_at objects)) named ∙ is.holds;
  reads = is.reads;
  no_keys = is.no_keys;
}

-- what was judged is a version
pub IsVersion-judged : (objects : Objects) (judged : Judged) → IsJudged objects judged → IsVersion objects judged.object
IsVersion-judged objects judged is = record {
  text = is.text;
  version = judged.version;
  holds = sym (ap (option_and_then (blob_at objects)) is.named) ∙ is.holds;
  reads = is.reads;
  no_keys = is.no_keys;
}

-- so is what a tree names of which a version was judged
pub IsVersion-named : (objects : Objects) (judged : Judged) (tree object : Name) → judged.tree ≡ tree → NamesVersion objects tree object → IsJudged objects judged → IsVersion objects object
IsVersion-named objects judged tree object same named is = record {
  text = is.text;
  version = judged.version;
  holds = sym (ap (option_and_then (blob_at objects)) named) ∙ ap (text_in objects) (sym same) ∙ is.holds;
  reads = is.reads;
  no_keys = is.no_keys;
}

-- ---- commits one after the other

-- from one version through those of these commits to that of one more
pub Leads-through : (objects : Objects) (first next : Version) (links : List Link) (link : Link) (text : List ℕ) → EachHas objects links → VersionIn objects link text next
    → Leads objects first (links ++ link ∷ []) next
Leads-through objects first next [] link text each has = (next, (text, has), refl)
Leads-through objects first next (m ∷ links) link text each has =
    let here : TreeHas objects m.tree = All-head (λ link. TreeHas objects link.tree) m links each in (
      here.version,
      (here.text, record { holds = here.holds; reads = here.reads; no_keys = here.no_keys }),
      Leads-through objects here.version next links link text (All-tail (λ link. TreeHas objects link.tree) m links each) has,
    )

-- a commit that is refused is one of those in front of it and itself
pub OneRefused-last : (objects : Objects) (links : List Link) (link : Link) (f : IdentityFault) → Refused (NoVersion objects link) f → Refused (OneRefused objects (links ++ link ∷ [])) f
OneRefused-last objects links link f h =
    Refused-map (NoVersion objects link) (OneRefused objects (links ++ link ∷ [])) (λ f h. (link, Contains-push links link, h)) f h

-- so is one of those in front
pub OneRefused-front : (objects : Objects) (links : List Link) (link : Link) (f : IdentityFault) → Refused (OneRefused objects links) f → Refused (OneRefused objects (links ++ link ∷ [])) f
OneRefused-front objects links link f h =
    Refused-map (OneRefused objects links) (OneRefused objects (links ++ link ∷ [])) (λ f h. (h.0, Contains-append_left links (link ∷ []) h.0 h.1, h.2)) f h

-- these commits are refused for one that has no version
pub OneRefused-at : (objects : Objects) (links : List Link) (k : ℕ) (d : Link) (f : IdentityFault) → k < length links
    → Refused (NoVersion objects (get_or links k d)) f → Refused (OneRefused objects links) f
OneRefused-at objects links k d f lt h =
    Refused-map (NoVersion objects (get_or links k d)) (OneRefused objects links)
    (λ f h. (get_or links k d, (k, lt, get_or_default links k (get_or links k d) d lt), h)) f h
