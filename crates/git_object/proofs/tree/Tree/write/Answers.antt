use Rattle.std.proofs.Common.{◌≡◌, ◌∙◌, ap, subst, List, ℕ, ◌++◌, All}
use Rattle.std.specs.List.{flat_map}
use Rattle.std.specs.List.Sorted.{IsPermutation}
use Rattle.gb_text.specs.Digits.{IsName}
use Rattle.git_object.specs.Grammar.{entry_text}
use Rattle.git_object.specs.declared.entry.Entry.{Entry}
use Rattle.git_object.proofs.OrderLaws.{held, written}
use Rattle.git_object.proofs.TreeLaws.{tree_only}
use Rattle.git_object.proofs.tree.Tree.write.Goals as goal

pub returns-clause-text : goal.returns-clause-text
returns-clause-text c =
    let es = held c.in_ok-sorted.sorted.items in
    let moved : IsPermutation c.args.self.now.entries es = subst (λ (xs : List Entry). IsPermutation xs es) c.as_slice.ensures c.in_ok-sorted.ensures.permutation in
    let same : held c.deref.result.now ≡ es = ap held c.deref.ensures.value in
    let text : c.from_vec.result ≡ flat_map entry_text es = c.from_vec.ensures ∙ c.in_ok-append_entries.ensures.text ∙ ap (λ (t : List ℕ). t ++ flat_map entry_text (held c.deref.result.now)) c.new-text.ensures.items ∙ ap (λ (l : List Entry). flat_map entry_text l) same in
    let objects : All (λ e. IsName e.object) es = subst (λ (l : List Entry). All (λ e. IsName e.object) l) same c.in_ok-append_entries.ensures.objects in
    (record { entries = es }, record { permutation = moved; order = c.in_ok-sorted.ensures.order }, written c.from_vec.result c.args.self.now es c.requires moved objects text)

pub returns-clause-reads_back : goal.returns-clause-reads_back
returns-clause-reads_back c =
    let es = held c.in_ok-sorted.sorted.items in
    let moved : IsPermutation c.args.self.now.entries es = subst (λ (xs : List Entry). IsPermutation xs es) c.as_slice.ensures c.in_ok-sorted.ensures.permutation in
    let same : held c.deref.result.now ≡ es = ap held c.deref.ensures.value in
    let text : c.from_vec.result ≡ flat_map entry_text es = c.from_vec.ensures ∙ c.in_ok-append_entries.ensures.text ∙ ap (λ (t : List ℕ). t ++ flat_map entry_text (held c.deref.result.now)) c.new-text.ensures.items ∙ ap (λ (l : List Entry). flat_map entry_text l) same in
    let objects : All (λ e. IsName e.object) es = subst (λ (l : List Entry). All (λ e. IsName e.object) l) same c.in_ok-append_entries.ensures.objects in
    let is = written c.from_vec.result c.args.self.now es c.requires moved objects text in
    (record { entries = es }, record { permutation = moved; order = c.in_ok-sorted.ensures.order }, tree_only c.from_vec.result (record { entries = es }) is)
