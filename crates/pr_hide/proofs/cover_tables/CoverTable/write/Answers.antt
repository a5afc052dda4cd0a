use Rattle.std.proofs.Common.{◌≡◌, ◌∙◌, List, [], Option, unwrap_or, ap}
use Rattle.pr_hidden.specs.Covers.{Patch, with_cover}
use Rattle.pr_hidden.specs.Hiders.{patches_written}
use Rattle.pr_hidden.specs.Hiding.{with_patches}
use Rattle.pr_hide.specs.CoverTables.{covers_in, covers_of}
use Rattle.pr_hide.specs.Hidings.{hiders_of}
use Rattle.pr_hide.proofs.CoverTableLemmas.{patches-changed}
use Rattle.pr_hide.proofs.cover_tables.CoverTable.write.Goals as goal

pub returns : goal.returns
unfolding covers_in
returns c =
    let old = c.args.self.now in
    let pid = c.args.pid in
    let written = patches_written (hiders_of c.args.who.now) c.args.by c.args.space.now c.args.at c.args.bytes.now in
    let before : c.vec_of-patches.result.items ≡ (covers_of old pid).patches =
    c.vec_of-patches.ensures ∙ ap (λ (o : Option (List Patch)). unwrap_or o []) c.remove.ensures.value in
    let put : c.from_vec.result ≡ written (covers_of old pid).patches =
    c.from_vec.ensures ∙ c.in_ok-write_patches.ensures ∙ ap written before in
    patches-changed old.agents old.patches c.remove.new.self c.insert.new.self pid c.from_vec.result
    c.remove.ensures.updates
    c.in_ok-insert.ensures.updates
    ∙ ap (λ (ps : List Patch). with_cover pid (with_patches ps (covers_of old pid)) (covers_of old)) put
