pub mod Audit
pub mod AuditLaws
