use Rattle.std.proofs.Common.{◌∙◌, arith}
use Rattle.std.proofs.lemmas.List.{append_assoc}
use Rattle.layout.proofs.Bytes.{be16_bytes, be32_bytes}
use Rattle.layout.proofs.page.Page.flow.Goals as goal

pub returns : goal.returns
returns c =
    let p = c.args.p in
    rw (
      c.put-6.ensures,
      c.put-5.ensures,
      c.put-4.ensures,
      c.put-3.ensures,
      c.put-2.ensures,
      c.put.ensures,
      c.to_be_bytes.ensures ∙ be16_bytes p.label (omega arith),
      c.to_be_bytes-2.ensures ∙ be32_bytes p.period (omega arith),
      c.to_be_bytes-3.ensures ∙ be32_bytes p.deadline (omega arith),
      c.to_be_bytes-4.ensures ∙ be32_bytes p.jitter (omega arith),
      c.to_be_bytes-5.ensures ∙ be32_bytes p.latency (omega arith),
    )
    (simp append_assoc)
