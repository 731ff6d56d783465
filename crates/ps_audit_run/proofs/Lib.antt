mod Audits
