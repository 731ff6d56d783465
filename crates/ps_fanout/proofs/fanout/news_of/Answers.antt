use Rattle.ps_types.specs.declared.event.Event.TheVariants.{Items, Retract, Purge, Delete, Configuration}
use Rattle.ps_access.specs.Tables.{book_of}
use Rattle.ps_fanout.proofs.Heard.{retold}
use Rattle.ps_fanout.proofs.fanout.news_of.Goals as goal

pub returns-in-Items : goal.returns-in-Items
returns-in-Items c = retold (book_of c.args.tables.now) c.args.event.now (Items c.in-Items.node c.in-Items.item) c.node_news.result c.in-Items.is c.node_news.ensures

pub returns-in-Retract : goal.returns-in-Retract
returns-in-Retract c =
    retold (book_of c.args.tables.now) c.args.event.now (Retract c.in-Retract.node c.in-Retract.id) c.node_news-in-Retract.result c.in-Retract.is c.node_news-in-Retract.ensures

pub returns-in-Purge : goal.returns-in-Purge
returns-in-Purge c =
    retold (book_of c.args.tables.now) c.args.event.now (Purge c.in-Purge.node) c.node_news-in-Purge.result c.in-Purge.is c.node_news-in-Purge.ensures

pub returns-in-Delete : goal.returns-in-Delete
returns-in-Delete c =
    retold (book_of c.args.tables.now) c.args.event.now (Delete c.in-Delete.node) c.node_news-in-Delete.result c.in-Delete.is c.node_news-in-Delete.ensures

pub returns-in-Configuration : goal.returns-in-Configuration
returns-in-Configuration c =
    retold (book_of c.args.tables.now) c.args.event.now (Configuration c.in-Configuration.node) c.node_news-in-Configuration.result c.in-Configuration.is c.node_news-in-Configuration.ensures
